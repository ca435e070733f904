-- The stages on the way from a page to its document and its edits: each refuses, or hands on what it found.
use Rattle.std.specs.Prelude.{◌≡◌, ℕ, nat_lt, if◌then◌else◌, List, length, Option, Some, None, Result, Ok, Err}
use Rattle.ftl_model.specs.layout.Limits.{most_page_bytes}
use Rattle.ftl_base.specs.Widths.{greatest_of_width}
use Rattle.ftl_base.specs.declared.width.Width.{Width}
use Rattle.ftl_model.specs.layout.Tree.{Forest}
use Rattle.ftl_tokens.specs.scanner.Scan.{scan}
use Rattle.ftl_tokens.specs.scanner.Tokenized.{Tokenized, WideTokenized}
use Rattle.ftl_tokens.specs.declared.scanner.fault.TokenFault.{TokenFault}
use Rattle.ftl_tokens.specs.declared.scanner.kind.Token.{Token}
use Rattle.ftl_page.specs.sections.Page.{page_of}
use Rattle.ftl_page.specs.declared.sections.fault.Section.{Section}
use Rattle.ftl_page.specs.declared.sections.fault.Section.TheVariants as section
use Rattle.ftl_page.specs.declared.sections.page.Need.{Need}
use Rattle.ftl_page.specs.declared.sections.page.Page.{Page}
use Rattle.ftl_grammar.specs.declared.syntax.rules.Grammar.{Grammar}
use Rattle.ftl_grammar.specs.reading.Read.{ReadsGrammar}
use Rattle.ftl_grammar.specs.declared.reading.fault.SyntaxFault.TheVariants as syntax
use Rattle.ftl_meaning.specs.faults.Checked.{CheckedGrammar}
use Rattle.ftl_meaning.specs.faults.FirstFault as grammars
use Rattle.ftl_deps.specs.reads.Meant.{meant}
use Rattle.ftl_nest_check.specs.stages.Nested.{nests_of}
use Rattle.ftl_nest_check.specs.declared.stages.types.NestingSchedule.{NestingSchedule}
use Rattle.ftl_schedule.specs.declared.names.fault.ScheduleFault.TheVariants as schedules
use Rattle.ftl_nest_text.specs.reading.NestReading.{NestAnswers}
use Rattle.ftl_nest_check.specs.check.NestFault as orders
use Rattle.ftl_nests.specs.Flat.{plain}
use Rattle.ftl_nests.specs.Nests.{outer_schedule}
use Rattle.ftl_order.specs.orders.Schedule as order
use Rattle.ftl_order.specs.automatic.Automatic.{IsAutomatic, IsStuck}
use Rattle.ftl_document.specs.declared.faults.fault.DocFault.TheVariants as document
use Rattle.ftl_tree.specs.trees.CheckedTree.{CheckedTree}
use Rattle.ftl_document.specs.reading.ReadTree.{ReadsTree}
use Rattle.ftl_step_value.specs.limits.faults.PlanFaults as plans
use Rattle.ftl_noncircular.specs.search.Circles.{TellsCircles}
use Rattle.ftl_noncircular.specs.declared.search.fault.CircularFault.TheVariants as circles
use Rattle.ftl_edits.specs.declared.meaning.types.Edit.{Edit}
use Rattle.ftl_edits.specs.declared.meaning.fault.EditFault.TheVariants as changes
use Rattle.ftl_edits.specs.reading.Read.{ReadsEdits}
use Rattle.ftl_answer.specs.refusals.CircularLines.{circular_line}
use Rattle.ftl_answer.specs.refusals.DocumentLines.{document_line}
use Rattle.ftl_answer.specs.refusals.EditLines.{edit_line}
use Rattle.ftl_answer.specs.refusals.GrammarLines.{grammar_line}
use Rattle.ftl_answer.specs.refusals.PageLines.{page_line, too_long_line}
use Rattle.ftl_answer.specs.refusals.PlanLines.{plan_line}
use Rattle.ftl_answer.specs.refusals.ScheduleLines.{schedule_line, stuck_line, verify_line}
use Rattle.ftl_answer.specs.refusals.TextLines.{syntax_line, token_line}
use Rattle.ftl_answer.specs.answers.Answer.{refused}
use Rattle.ftl_answer.specs.answers.Stages.{Is, Outcome, Stage, Then, ResultStage, ends, hands_on, result_outcome}
use Rattle.ftl_answer.specs.answers.Stages.{unless}

-- the status of a refusal in a section
abbrev pub status_of : Section → ℕ
status_of section.Grammar = 5
status_of section.Schedule = 6
status_of section.Document = 7
status_of section.Edits = 10

-- ---- the page

-- the sections that are needed
abbrev pub page : Need → (bytes : List ℕ) → Stage Page
page need bytes =
    Is (if nat_lt most_page_bytes (length bytes) then ends (refused 4 too_long_line)
    else result_outcome (λ fault. refused 4 (page_line fault)) (page_of bytes need))

-- ---- tokens

-- a text with its tokens
abbrev pub tokenized : (text : List ℕ) → List Token → Tokenized
tokenized text tokens = record { text = text; tokens = tokens }

-- what the tokens of a text come to
abbrev pub scanned_as : Section → (text : List ℕ) → Result (List Token) TokenFault → Outcome Tokenized
scanned_as which text (Ok tokens) = hands_on (tokenized text tokens)
scanned_as which text (Err fault) = ends (refused (status_of which) (token_line which fault))

-- the text of a section with its tokens, whose numbers are at most the greatest
abbrev pub tokens : Section → (greatest : ℕ) → (text : List ℕ) → Stage Tokenized
tokens which greatest text = Is (scanned_as which text (scan greatest text))

-- ---- the grammar

-- the grammar that the tokens spell
abbrev pub spelled_grammar : Tokenized → Stage Grammar
spelled_grammar scanned =
    ResultStage syntax.OutOfMemory (λ fault. refused 5 (syntax_line fault)) (ReadsGrammar scanned)

-- the grammar in this width
abbrev pub checked_grammar : Width → Grammar → CheckedGrammar
checked_grammar width g = record { grammar = g; width = width }

-- it has no fault
abbrev pub lawful_grammar : Width → Grammar → Stage CheckedGrammar
lawful_grammar width g =
    Is (unless (λ fault. refused 5 (grammar_line fault)) (grammars.first_fault g) (checked_grammar width g))

-- the grammar of a text
abbrev pub grammar : Width → (text : List ℕ) → Stage CheckedGrammar
grammar width text =
    Then (tokens section.Grammar 2147483647 text)
    (λ scanned. Then (spelled_grammar scanned) (lawful_grammar width))

-- it is noncircular; otherwise its first circular vertex is told
abbrev pub noncircular_grammar : CheckedGrammar → Stage CheckedGrammar
noncircular_grammar c =
    ResultStage circles.OutOfMemory (λ fault. refused 5 (circular_line c.grammar fault)) (TellsCircles c)

-- ---- the schedule

-- the schedule that the tokens spell, by what its names stand for; its passes may nest others
abbrev pub spelled_schedule : CheckedGrammar → Tokenized → Stage NestingSchedule
spelled_schedule c scanned =
    ResultStage schedules.OutOfMemory (λ fault. refused 6 (schedule_line fault)) (NestAnswers c scanned)

-- it is ordered
abbrev pub ordered_schedule : CheckedGrammar → NestingSchedule → Stage NestingSchedule
ordered_schedule c s =
    Is (unless (λ fault. refused 6 (verify_line c.grammar fault)) (orders.first_nest_fault (meant c) (nests_of s)) s)

-- the automatic schedule, which nests nothing, or the attributes that it leaves
abbrev pub automatic_schedule : CheckedGrammar → Stage NestingSchedule
automatic_schedule c (hands_on s) =
    (flat : order.Schedule) × IsAutomatic (meant c) flat × (nests_of s ≡ plain flat)
automatic_schedule c (ends a) =
    (left : List ℕ) × IsStuck (meant c) left × (a ≡ refused 6 (stuck_line c.grammar left))

-- the schedule of a text, or the automatic one where there is none
abbrev pub schedule : CheckedGrammar → (text : Option (List ℕ)) → Stage NestingSchedule
schedule c None = automatic_schedule c
schedule c (Some text) =
    Then (tokens section.Schedule 2147483647 text) (λ scanned. Then (spelled_schedule c scanned) (ordered_schedule c))

-- ---- the document

-- the tree that the tokens mean
abbrev pub spelled_tree : CheckedGrammar → WideTokenized → Stage CheckedTree
spelled_tree c scanned =
    ResultStage document.OutOfMemory (λ fault. refused 7 (document_line c.grammar fault)) (ReadsTree c scanned)

-- a text with its tokens, whose numbers are at most the greatest
abbrev pub wide : (greatest : ℕ) → Tokenized → WideTokenized
wide greatest scanned = record { tokenized = scanned; greatest = greatest }

-- the tree of the document of a text
abbrev pub grown_tree : CheckedGrammar → (text : List ℕ) → Stage Forest
grown_tree c text =
    Then (tokens section.Document (greatest_of_width c.width) text)
    (λ scanned. Then (spelled_tree c (wide (greatest_of_width c.width) scanned)) (λ t. Is (hands_on t.tree)))

-- no outer stage reads too much, with what its passes nest
abbrev pub planned_tree : CheckedGrammar → NestingSchedule → Forest → Stage Forest
planned_tree c s t =
    Is (unless (λ fault. refused 7 (plan_line fault)) (plans.first_fault (meant c) (outer_schedule (nests_of s)) t) t)

-- the tree of the document of a text, which the schedule can solve
abbrev pub tree : CheckedGrammar → NestingSchedule → (text : List ℕ) → Stage Forest
tree c s text = Then (grown_tree c text) (planned_tree c s)

-- ---- the edits

-- the edits that the tokens stand for at the tree
abbrev pub spelled_edits : CheckedGrammar → Forest → WideTokenized → Stage (List Edit)
spelled_edits c t scanned =
    ResultStage changes.OutOfMemory (λ fault. refused 10 (edit_line fault))
    (ReadsEdits (record { checked = c; tree = t }) scanned)

-- the edits of a text
abbrev pub edits : CheckedGrammar → Forest → (text : List ℕ) → Stage (List Edit)
edits c t text =
    Then (tokens section.Edits (greatest_of_width c.width) text)
    (λ scanned. spelled_edits c t (wide (greatest_of_width c.width) scanned))
