-- The answer to words and bytes: the first refusal that applies, or what the command asks for.
use Rattle.std.specs.Prelude.{◌≡◌, ◌≢◌, ℕ, true, false, if◌then◌else◌, List, [], ◌++◌, length, Option, Some, None, codes}
use Rattle.std.specs.Fmt.{decimal}
use Rattle.ftl_model.specs.layout.Boxes.{boxes, shows_overflow}
use Rattle.ftl_model.specs.layout.Table.{SolvesList, value_in}
use Rattle.ftl_model.specs.layout.Tree.{Forest}
use Rattle.ftl_model.specs.layout.Values.{Value}
use Rattle.ftl_meaning.specs.grammars.GrammarOf.{names_of}
use Rattle.ftl_page.specs.declared.sections.page.Need.{Need}
use Rattle.ftl_page.specs.declared.sections.page.Page.{Page}
use Rattle.ftl_boxes.specs.SamplePage.{sample_page_of}
use Rattle.ftl_page.specs.commands.Commands.{command_of}
use Rattle.ftl_page.specs.declared.commands.command.Command.{Command}
use Rattle.ftl_page.specs.declared.commands.command.Command.TheVariants as command
use Rattle.ftl_meaning.specs.faults.Checked.{CheckedGrammar}
use Rattle.ftl_deps.specs.reads.Meant.{meant}
use Rattle.ftl_edits.specs.declared.meaning.types.Edit.{Edit}
use Rattle.ftl_relayout.specs.relaid.Relaid.{IsRelaid, edited_tree}
use Rattle.ftl_order.specs.declared.faults.fault.VerifyFault.{VerifyFault}
use Rattle.ftl_order.specs.declared.faults.fault.VerifyFault.TheVariants as verify
use Rattle.ftl_nest_check.specs.check.NestFault.{first_nest_fault}
use Rattle.ftl_page.specs.declared.sections.fault.Section.TheVariants as section
use Rattle.ftl_nest_check.specs.declared.stages.types.NestingSchedule.{NestingSchedule}
use Rattle.ftl_nest_check.specs.stages.Nested.{nests_of}
use Rattle.ftl_nest_text.specs.printing.NestWritten.{nest_written_of}
use Rattle.ftl_nest_text.specs.text.NestText.{nesting_schedule_text}
use Rattle.ftl_answer.specs.refusals.PageLines.{words_line}
use Rattle.ftl_answer.specs.refusals.ScheduleLines.{verify_line}
use Rattle.ftl_answer.specs.answers.Answer.{Answer, answer, refused}
use Rattle.ftl_answer.specs.answers.Stages.{Is, Outcome, Stage, Then, ends, hands_on, result_outcome}
use Rattle.ftl_answer.specs.answers.Summary.{summary}
use Rattle.ftl_answer.specs.answers.Explanations.{IsExplanation}
use Rattle.ftl_answer.specs.answers.Texts.{automatic_schedule, edits, grown_tree, grammar, noncircular_grammar, page}
use Rattle.ftl_answer.specs.answers.Texts.{schedule, spelled_schedule, tokens, tree}

-- ---- what commands need

-- a page whose document is not looked at
abbrev pub rules_alone : Need
rules_alone = record { schedule = true; document = false; edits = false }

-- a page that is solved
abbrev pub whole_page : Need
whole_page = record { schedule = true; document = true; edits = false }

-- a page that is solved, edited and solved anew
abbrev pub edited_page : Need
edited_page = record { schedule = true; document = true; edits = true }

-- a page that is solved without a look at its schedule
abbrev pub unscheduled_page : Need
unscheduled_page = record { schedule = false; document = true; edits = false }

-- ---- what commands print

-- the table of a list, shown by a text; status 8 where a shown value is Overflow
abbrev pub shown_answer : (CheckedGrammar → Forest → List Value → List ℕ) → CheckedGrammar → Forest → List Value → Answer
shown_answer text c t values =
    answer (if shows_overflow (names_of c.grammar) t (value_in (meant c) t values) then 8 else 0) (text c t values)

-- the table of a list that solves is shown
abbrev pub shown_by : (CheckedGrammar → Forest → List Value → List ℕ) → CheckedGrammar → Forest → Stage ⊥
shown_by text c t outcome =
    (values : List Value) × SolvesList (meant c) t values × (outcome ≡ ends (shown_answer text c t values))

-- the boxes of a table
abbrev pub boxes_of : CheckedGrammar → Forest → List Value → List ℕ
boxes_of c t values = boxes (names_of c.grammar) t (value_in (meant c) t values)

-- how many instances edits touched
abbrev pub touched_line : (count : ℕ) → List ℕ
touched_line count = codes "touched=" ++ (decimal count ++ codes "\n")

-- the boxes of a table, and how many instances edits touched
abbrev pub boxes_and_touched : (count : ℕ) → CheckedGrammar → Forest → List Value → List ℕ
boxes_and_touched count c t values = boxes_of c t values ++ touched_line count

-- the summary of a table, by the name of its grammar
abbrev pub summary_of : (name : List ℕ) → CheckedGrammar → Forest → List Value → List ℕ
summary_of name c t values = summary name (meant c) (names_of c.grammar) t (value_in (meant c) t values)

-- ---- commands

-- a grammar and a schedule, and what goes on with them
abbrev pub with_rules : Need → (bytes : List ℕ) → (CheckedGrammar → NestingSchedule → Page → Stage ⊥) → Stage ⊥
with_rules need bytes next =
    Then (page need bytes) (λ p. Then (grammar p.width p.grammar) (λ c. Then (schedule c p.schedule) (λ s. next c s p)))

-- the text, or an empty one where there is none
abbrev pub text_or_none : Option (List ℕ) → List ℕ
text_or_none None = []
text_or_none (Some text) = text

-- the text of the document; a page that is solved has one
abbrev pub document_text : Page → List ℕ
document_text p = text_or_none p.document

-- the page is solved, and its table shown
abbrev pub solved : (bytes : List ℕ) → (CheckedGrammar → Forest → List Value → List ℕ) → Stage ⊥
solved bytes text =
    with_rules whole_page bytes (λ c s p. Then (tree c s (document_text p)) (shown_by text c))

-- the page is solved by demand, and its table shown
abbrev pub solved_by_demand : (bytes : List ℕ) → (CheckedGrammar → Forest → List Value → List ℕ) → Stage ⊥
solved_by_demand bytes text =
    Then (page unscheduled_page bytes)
    (λ p. Then (grammar p.width p.grammar)
    (λ c. Then (noncircular_grammar c) (λ _. Then (grown_tree c (document_text p)) (shown_by text c))))

-- The tree is solved, its inputs are edited, and the changed tree is solved. The touched instances are those that are
-- computed and have a read whose value is another one than before.
pub record IsLaidOutAnew (c : CheckedGrammar) (t : Forest) (edits : List Edit) (values : List Value) (touched : List ℕ)
    : Type 0 where
  pub old : List Value
  pub solved : SolvesList (meant c) t old
  pub anew : IsRelaid c (edited_tree c t edits) old values touched

-- the boxes of the changed tree, and how many instances were touched; status 8 where a shown value of it is Overflow
abbrev pub edited_answer : CheckedGrammar → Forest → List Edit → List Value → (touched : List ℕ) → Answer
edited_answer c t edits values touched =
    shown_answer (boxes_and_touched (length touched)) c (edited_tree c t edits) values

-- edits are applied, and the changed tree is shown
abbrev pub edited_by : CheckedGrammar → Forest → List Edit → Stage ⊥
edited_by c t edits outcome =
    (values : List Value) × (touched : List ℕ) × IsLaidOutAnew c t edits values touched
    × (outcome ≡ ends (edited_answer c t edits values touched))

-- the text of the edits; a page that is edited has one
abbrev pub edits_text : Page → List ℕ
edits_text p = text_or_none p.edits

-- the edits of a tree are read, and the changed tree is shown
abbrev pub edited_tree_shown : Page → CheckedGrammar → Forest → Stage ⊥
edited_tree_shown p c t = Then (edits c t (edits_text p)) (edited_by c t)

-- the page is solved, edited and solved anew
abbrev pub solved_anew : (bytes : List ℕ) → Stage ⊥
solved_anew bytes =
    with_rules edited_page bytes (λ c s p. Then (tree c s (document_text p)) (edited_tree_shown p c))

-- the answer where grammar and schedule are accepted
abbrev pub accepted_answer : Answer
accepted_answer = answer 0 (codes "accepted\n")

-- a fault of the schedule is refused
abbrev pub fault_refused : CheckedGrammar → VerifyFault → Answer
fault_refused c fault = refused 6 (verify_line c.grammar fault)

-- The schedule by its first fault: with none it is accepted; a pair is explained, by any text that does so; other faults
-- are refused.
abbrev pub explained_by : CheckedGrammar → NestingSchedule → Option VerifyFault → Stage ⊥
explained_by c s None outcome = outcome ≡ ends accepted_answer
explained_by c s (Some (verify.Unordered reader writer)) outcome =
    (text : List ℕ) × IsExplanation c s text × (outcome ≡ ends (answer 0 text))
explained_by c s (Some (verify.Twice a)) outcome = outcome ≡ ends (fault_refused c (verify.Twice a))
explained_by c s (Some (verify.Missing a)) outcome = outcome ≡ ends (fault_refused c (verify.Missing a))
explained_by c s (Some verify.OutOfMemory) outcome = outcome ≡ ends (fault_refused c verify.OutOfMemory)

-- the schedule is explained
abbrev pub explained_schedule : CheckedGrammar → NestingSchedule → Stage ⊥
explained_schedule c s = explained_by c s (first_nest_fault (meant c) (nests_of s))

-- the schedule of a text is explained; an automatic one is accepted
abbrev pub explained : CheckedGrammar → (text : Option (List ℕ)) → Stage ⊥
explained c None = Then (automatic_schedule c) (λ s. Is (ends accepted_answer))
explained c (Some text) =
    Then (tokens section.Schedule 2147483647 text) (λ scanned. Then (spelled_schedule c scanned) (explained_schedule c))

-- the schedule of a page is explained
abbrev pub explained_page : (bytes : List ℕ) → Stage ⊥
explained_page bytes =
    Then (page rules_alone bytes) (λ p. Then (grammar p.width p.grammar) (λ c. explained c p.schedule))

-- what a command comes to
abbrev pub obeyed : Command → (bytes : List ℕ) → Stage ⊥
obeyed (command.Run how) bytes = solved bytes boxes_of
obeyed command.Check bytes = with_rules rules_alone bytes (λ c s p. Is (ends accepted_answer))
obeyed command.Schedule bytes =
    with_rules rules_alone bytes (λ c s p. Is (ends (answer 0 (nesting_schedule_text (nest_written_of c.grammar s)))))
obeyed command.Explain bytes = explained_page bytes
obeyed command.Demand bytes = solved_by_demand bytes boxes_of
obeyed (command.Edit how) bytes = solved_anew bytes
obeyed (command.Sample pieces name how) bytes =
    Then (Is (result_outcome (λ fault. refused 2 words_line) (sample_page_of name pieces)))
    (λ text. solved text (summary_of name))

-- the command that the words are
abbrev pub command_in : Option Command → Outcome Command
command_in None = ends (refused 2 words_line)
command_in (Some c) = hands_on c

-- what words and bytes come to
abbrev pub answered : (words : List (List ℕ)) → (bytes : List ℕ) → Stage ⊥
answered words bytes = Then (Is (command_in (command_of words))) (λ c. obeyed c bytes)

-- the answer to words and bytes
abbrev pub IsAnswer : (words : List (List ℕ)) → (bytes : List ℕ) → Answer → Type 0
IsAnswer words bytes a = answered words bytes (ends a)

-- the words don't ask for an explanation, of which several may be right
abbrev pub AskForNoExplanation : (words : List (List ℕ)) → Type 0
AskForNoExplanation words = command_of words ≢ Some command.Explain

-- words and bytes have an answer, and but for explanations they have one alone
pub record HasOneAnswer (words : List (List ℕ)) (bytes : List ℕ) : Type 0 where
  pub some : (a : Answer) × IsAnswer words bytes a
  pub any_two :
      AskForNoExplanation words → (one other : Answer) → IsAnswer words bytes one → IsAnswer words bytes other
      → one ≡ other
