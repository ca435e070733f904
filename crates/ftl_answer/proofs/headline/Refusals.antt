-- What a stage ends with is one line that refuses. Whatever holds of each such line holds of each end.
use Rattle.std.proofs.Common.{◌≡◌, inl, inr, refl, sym, ap, subst, ℕ, Bool, true, false, List, length, Option, Some, None, Result, Ok, Err}
use Rattle.std.specs.Prelude.{nat_lt, if◌then◌else◌}
use Rattle.ftl_base.specs.Widths.{greatest_of_width}
use Rattle.ftl_base.specs.declared.width.Width.{Width}
use Rattle.ftl_page.specs.declared.commands.command.Command.{Command}
use Rattle.ftl_deps.specs.reads.Meant.{meant}
use Rattle.ftl_document.specs.reading.ReadTree.{ReadsTree}
use Rattle.ftl_document.specs.declared.faults.fault.DocFault.TheVariants as document
use Rattle.ftl_edits.specs.declared.meaning.types.Edit.{Edit}
use Rattle.ftl_edits.specs.declared.meaning.fault.EditFault.TheVariants as changes
use Rattle.ftl_edits.specs.reading.Read.{ReadsEdits}
use Rattle.ftl_grammar.specs.reading.Read.{ReadsGrammar}
use Rattle.ftl_grammar.specs.declared.reading.fault.SyntaxFault.TheVariants as syntax
use Rattle.ftl_meaning.specs.faults.Checked.{CheckedGrammar}
use Rattle.ftl_meaning.specs.faults.FirstFault as grammars
use Rattle.ftl_model.specs.layout.Tree.{Forest}
use Rattle.ftl_model.specs.layout.Values.{Value}
use Rattle.ftl_noncircular.specs.grammars.Noncircular.{IsNoncircular}
use Rattle.ftl_noncircular.specs.search.Circles.{TellsCircles}
use Rattle.ftl_noncircular.specs.declared.search.fault.CircularFault.TheVariants as circles
use Rattle.ftl_page.specs.sections.Page.{page_of}
use Rattle.ftl_page.specs.declared.sections.fault.PageFault.{PageFault}
use Rattle.ftl_page.specs.declared.sections.fault.Section.{Section}
use Rattle.ftl_page.specs.declared.sections.fault.Section.TheVariants as section
use Rattle.ftl_page.specs.declared.sections.page.Need.{Need}
use Rattle.ftl_page.specs.declared.sections.page.Page.{Page}
use Rattle.ftl_step_value.specs.limits.faults.PlanFaults as plans
use Rattle.ftl_answer.specs.refusals.CircularLines.{circular_line}
use Rattle.ftl_answer.specs.refusals.DocumentLines.{document_line}
use Rattle.ftl_answer.specs.refusals.EditLines.{edit_line}
use Rattle.ftl_answer.specs.refusals.GrammarLines.{grammar_line}
use Rattle.ftl_answer.specs.refusals.PageLines.{page_line, too_long_line, words_line}
use Rattle.ftl_answer.specs.refusals.PlanLines.{plan_line}
use Rattle.ftl_answer.specs.refusals.ScheduleLines.{schedule_line, stuck_line, verify_line}
use Rattle.ftl_answer.specs.refusals.TextLines.{syntax_line, token_line}
use Rattle.ftl_nest_check.specs.check.NestFault as orders
use Rattle.ftl_schedule.specs.declared.names.fault.ScheduleFault.TheVariants as schedules
use Rattle.ftl_nest_check.specs.stages.Nested.{nests_of}
use Rattle.ftl_nest_check.specs.declared.stages.types.NestingSchedule.{NestingSchedule}
use Rattle.ftl_nest_text.specs.reading.NestReading.{NestAnswers}
use Rattle.ftl_nests.specs.Nests.{outer_schedule}
use Rattle.ftl_grammar.specs.declared.syntax.rules.Grammar.{Grammar}
use Rattle.ftl_tokens.specs.scanner.Scan.{scan}
use Rattle.ftl_tokens.specs.scanner.Tokenized.{Tokenized}
use Rattle.ftl_tokens.specs.declared.scanner.fault.TokenFault.{TokenFault}
use Rattle.ftl_tokens.specs.declared.scanner.kind.Token.{Token}
use Rattle.ftl_tree.specs.trees.CheckedTree.{CheckedTree}
use Rattle.ftl_order.specs.declared.faults.fault.VerifyFault.{VerifyFault}
use Rattle.ftl_order.specs.declared.faults.fault.VerifyFault.TheVariants as verify
use Rattle.ftl_answer.specs.answers.Answer.{Answer, answer, refused}
use Rattle.ftl_answer.specs.answers.Answers.{accepted_answer, explained, explained_by, explained_page, explained_schedule}
use Rattle.ftl_answer.specs.answers.Answers.{fault_refused, rules_alone}
use Rattle.ftl_answer.specs.answers.Explanations.{IsExplanation}
use Rattle.ftl_answer.specs.answers.Answers.{command_in, document_text, edited_by, edited_page, edited_tree_shown}
use Rattle.ftl_answer.specs.answers.Answers.{edits_text, shown_by, solved_anew, solved_by_demand, unscheduled_page}
use Rattle.ftl_answer.specs.answers.Answers.{with_rules}
use Rattle.ftl_answer.specs.answers.Stages.{Is, Outcome, Stage, Then, ResultStage, ends, hands_on, result_outcome, unless}
use Rattle.ftl_answer.specs.answers.Texts.{automatic_schedule}
use Rattle.ftl_answer.specs.answers.Texts.{checked_grammar, edits, grammar, grown_tree, lawful_grammar, noncircular_grammar}
use Rattle.ftl_answer.specs.answers.Texts.{ordered_schedule}
use Rattle.ftl_answer.specs.answers.Texts.{page, planned_tree, scanned_as, schedule, spelled_grammar, spelled_schedule}
use Rattle.ftl_answer.specs.answers.Texts.{spelled_edits, spelled_tree, status_of, tokenized, tokens, tree, wide}
use Rattle.ftl_model.specs.layout.Limits.{most_page_bytes}
use Rattle.ftl_answer.specs.headline.Promises.{IsRefusalStatus, IsSectionStatus}
use Rattle.ftl_answer.proofs.answers.Ones.{end_is_no_value, same_end}

-- the end, at an outcome of this type
abbrev pub ended : (X : Type 0) → Answer → Outcome X
ended X a = ends a

pub of_words_status : IsRefusalStatus 2
of_words_status = inl refl

pub of_page_status : IsRefusalStatus 4
of_page_status = inr (inl refl)

of_grammar_status : IsSectionStatus 5
of_grammar_status = inl refl

of_schedule_status : IsSectionStatus 6
of_schedule_status = inr (inl refl)

of_document_status : IsSectionStatus 7
of_document_status = inr (inr (inl refl))

of_edits_status : IsSectionStatus 10
of_edits_status = inr (inr (inr refl))

-- a section's refusal is one
pub of_section : (s : ℕ) → IsSectionStatus s → IsRefusalStatus s
of_section s is = inr (inr is)

module _ (Fine : Answer → Type 0) where
  pub same : (a b : Answer) → a ≡ b → Fine b → Fine a
  same a b is fine = subst Fine (sym is) fine

  pub two : {X Y : Type 0} (first : Stage X) (second : X → Stage Y)
      → ((a : Answer) → first (ends a) → Fine a)
      → ((x : X) → first (hands_on x) → (a : Answer) → second x (ends a) → Fine a)
      → (a : Answer) → Then first second (ends a) → Fine a
  two {Y = Y} first second one next a (inl p) = same a p.0 (same_end a p.0 p.2) (one p.0 p.1)
  two first second one next a (inr p) = next p.0 p.1 a p.2

  fault_ends : {X E : Type 0} (refusal : E → Answer) → ((e : E) → Fine (refusal e)) → (fault : Option E) (x : X) (a : Answer)
      → ended X a ≡ unless refusal fault x → Fine a
  fault_ends refusal each None x a is = absurd (end_is_no_value a x is)
  fault_ends refusal each (Some e) x a is = same a (refusal e) (same_end a (refusal e) is) (each e)

  pub result_ends : {X E : Type 0} (refusal : E → Answer) → ((e : E) → Fine (refusal e)) → (r : Result X E) (a : Answer)
      → ended X a ≡ result_outcome refusal r → Fine a
  result_ends refusal each (Ok x) a is = absurd (end_is_no_value a x is)
  result_ends refusal each (Err e) a is = same a (refusal e) (same_end a (refusal e) is) (each e)

  call_ends : {X E : Type 0} (memory : E) (refusal : E → Answer) (Results : Result X E → Type 0) → ((e : E) → Fine (refusal e))
      → (a : Answer) → ResultStage memory refusal Results (ends a) → Fine a
  call_ends memory refusal Results each a p = same a (refusal p.0) p.3 (each p.0)

  -- ---- words and pages

  pub of_words : Fine (refused 2 words_line) → (c : Option Command) (a : Answer) → ended Command a ≡ command_in c → Fine a
  of_words line None a is = same a (refused 2 words_line) (same_end a (refused 2 words_line) is) line
  of_words line (Some c) a is = absurd (end_is_no_value a c is)

  page_by : ((text : List ℕ) → Fine (refused 4 text)) → (long : Bool) (r : Result Page PageFault) (a : Answer)
      → ended Page a ≡ (if long then ends (refused 4 too_long_line) else result_outcome (λ fault. refused 4 (page_line fault)) r)
      → Fine a
  page_by line true r a is =
      same a (refused 4 too_long_line) (same_end a (refused 4 too_long_line) is) (line too_long_line)
  page_by line false r a is =
      result_ends (λ fault. refused 4 (page_line fault)) (λ fault. line (page_line fault)) r a is

  -- where each refusal of a page is fine, its end is
  pub of_page : ((text : List ℕ) → Fine (refused 4 text)) → (need : Need) (bytes : List ℕ) (a : Answer)
      → page need bytes (ends a) → Fine a
  of_page line need bytes a is = page_by line (nat_lt most_page_bytes (length bytes)) (page_of bytes need) a is

module _ (Fine : Answer → Type 0) (line : (s : ℕ) → IsSectionStatus s → (text : List ℕ) → Fine (refused s text)) where
  -- ---- texts

  tokens_by : (which : Section) → IsSectionStatus (status_of which) → (text : List ℕ)
      → (r : Result (List Token) TokenFault) (a : Answer) → ended Tokenized a ≡ scanned_as which text r → Fine a
  tokens_by which of_section text (Ok list) a is = absurd (end_is_no_value a (tokenized text list) is)
  tokens_by which of_section text (Err fault) a is =
      let refusal = refused (status_of which) (token_line which fault) in
      same Fine a refusal (same_end a refusal is) (line (status_of which) of_section (token_line which fault))

  of_tokens : (which : Section) → IsSectionStatus (status_of which) → (greatest : ℕ) (text : List ℕ) (a : Answer)
      → tokens which greatest text (ends a) → Fine a
  of_tokens which of_section greatest text a is = tokens_by which of_section text (scan greatest text) a is

  of_grammar : (width : Width) (text : List ℕ) (a : Answer) → grammar width text (ends a) → Fine a
  of_grammar width text =
      two Fine (tokens section.Grammar 2147483647 text) (λ scanned. Then (spelled_grammar scanned) (lawful_grammar width))
      (of_tokens section.Grammar of_grammar_status 2147483647 text)
      (λ scanned read.
      two Fine (spelled_grammar scanned) (lawful_grammar width)
      (call_ends Fine syntax.OutOfMemory (λ fault. refused 5 (syntax_line fault)) (ReadsGrammar scanned)
      (λ fault. line 5 of_grammar_status (syntax_line fault)))
      (λ (g : Grammar) spelled.
      fault_ends Fine (λ fault. refused 5 (grammar_line fault)) (λ fault. line 5 of_grammar_status (grammar_line fault))
      (grammars.first_fault g) (checked_grammar width g)))

  of_schedule : (c : CheckedGrammar) (text : Option (List ℕ)) (a : Answer) → schedule c text (ends a) → Fine a
  of_schedule c None a p =
      let refusal = stuck_line c.grammar p.0 in same Fine a (refused 6 refusal) p.2 (line 6 of_schedule_status refusal)
  of_schedule c (Some text) a p =
      two Fine (tokens section.Schedule 2147483647 text)
      (λ scanned. Then (spelled_schedule c scanned) (ordered_schedule c))
      (of_tokens section.Schedule of_schedule_status 2147483647 text)
      (λ scanned read.
      two Fine (spelled_schedule c scanned) (ordered_schedule c)
      (call_ends Fine schedules.OutOfMemory (λ fault. refused 6 (schedule_line fault)) (NestAnswers c scanned)
      (λ fault. line 6 of_schedule_status (schedule_line fault)))
      (λ (s : NestingSchedule) spelled.
      fault_ends Fine (λ fault. refused 6 (verify_line c.grammar fault))
      (λ fault. line 6 of_schedule_status (verify_line c.grammar fault)) (orders.first_nest_fault (meant c) (nests_of s)) s))
      a p

  pub of_noncircular : (c : CheckedGrammar) (a : Answer) → noncircular_grammar c (ends a) → Fine a
  of_noncircular c =
      call_ends Fine circles.OutOfMemory (λ fault. refused 5 (circular_line c.grammar fault)) (TellsCircles c)
      (λ fault. line 5 of_grammar_status (circular_line c.grammar fault))

  pub of_grown : (c : CheckedGrammar) (text : List ℕ) (a : Answer) → grown_tree c text (ends a) → Fine a
  of_grown c text =
      two Fine (tokens section.Document (greatest_of_width c.width) text)
      (λ scanned. Then (spelled_tree c (wide (greatest_of_width c.width) scanned))
      (λ (t : CheckedTree). Is (hands_on t.tree)))
      (of_tokens section.Document of_document_status (greatest_of_width c.width) text)
      (λ scanned read.
      two Fine (spelled_tree c (wide (greatest_of_width c.width) scanned)) (λ (t : CheckedTree). Is (hands_on t.tree))
      (call_ends Fine document.OutOfMemory (λ fault. refused 7 (document_line c.grammar fault))
      (ReadsTree c (wide (greatest_of_width c.width) scanned))
      (λ fault. line 7 of_document_status (document_line c.grammar fault)))
      (λ (t : CheckedTree) spelled a is. absurd (end_is_no_value a t.tree is)))

  pub of_tree : (c : CheckedGrammar) (s : NestingSchedule) (text : List ℕ) (a : Answer) → tree c s text (ends a) → Fine a
  of_tree c s text =
      two Fine (grown_tree c text) (planned_tree c s) (of_grown c text)
      (λ (t : Forest) grown.
      fault_ends Fine (λ fault. refused 7 (plan_line fault)) (λ fault. line 7 of_document_status (plan_line fault))
      (plans.first_fault (meant c) (outer_schedule (nests_of s)) t) t)

  pub of_edits : (c : CheckedGrammar) (t : Forest) (text : List ℕ) (a : Answer) → edits c t text (ends a) → Fine a
  of_edits c t text =
      two Fine (tokens section.Edits (greatest_of_width c.width) text)
      (λ scanned. spelled_edits c t (wide (greatest_of_width c.width) scanned))
      (of_tokens section.Edits of_edits_status (greatest_of_width c.width) text)
      (λ scanned read.
      call_ends Fine changes.OutOfMemory (λ fault. refused 10 (edit_line fault))
      (ReadsEdits (record { checked = c; tree = t }) (wide (greatest_of_width c.width) scanned))
      (λ fault. line 10 of_edits_status (edit_line fault)))

  -- a grammar and a schedule, and what goes on with them
  pub of_rules : (need : Need) (bytes : List ℕ) (next : CheckedGrammar → NestingSchedule → Page → Stage ⊥)
      → ((c : CheckedGrammar) (s : NestingSchedule) (p : Page) → page need bytes (hands_on p)
      → grammar p.width p.grammar (hands_on c) → schedule c p.schedule (hands_on s)
      → (a : Answer) → next c s p (ends a) → Fine a)
      → ((a : Answer) → page need bytes (ends a) → Fine a)
      → (a : Answer) → with_rules need bytes next (ends a) → Fine a
  of_rules need bytes next each paged =
      two Fine (page need bytes)
      (λ p. Then (grammar p.width p.grammar) (λ c. Then (schedule c p.schedule) (λ s. next c s p)))
      paged
      (λ p read.
      two Fine (grammar p.width p.grammar) (λ c. Then (schedule c p.schedule) (λ s. next c s p))
      (of_grammar p.width p.grammar)
      (λ c lawful.
      two Fine (schedule c p.schedule) (λ s. next c s p) (of_schedule c p.schedule)
      (λ s ordered. each c s p read lawful ordered)))

  -- a schedule that is accepted, or whose first fault is a pair that a text explains
  module _ (c : CheckedGrammar) (text : List ℕ) (scanned : Tokenized)
      (read : tokens section.Schedule 2147483647 text (hands_on scanned)) (s : NestingSchedule)
      (spelled : spelled_schedule c scanned (hands_on s))
      (accept : schedule c (Some text) (hands_on s) → Fine accepted_answer)
      (explain : (reader writer : ℕ) → orders.first_nest_fault (meant c) (nests_of s) ≡ Some (verify.Unordered reader writer)
      → (told : List ℕ) → IsExplanation c s told → Fine (answer 0 told)) where
    refused_fault : (fault : VerifyFault) (a : Answer) → ended ⊥ a ≡ ends (fault_refused c fault) → Fine a
    refused_fault fault a is =
        same Fine a (fault_refused c fault) (same_end a (fault_refused c fault) is)
        (line 6 of_schedule_status (verify_line c.grammar fault))

    told_by : (o : Option VerifyFault) → orders.first_nest_fault (meant c) (nests_of s) ≡ o → (a : Answer)
        → explained_by c s o (ends a) → Fine a
    told_by None e a is =
        let ordered : ordered_schedule c s (hands_on s) =
        ap (λ (o : Option VerifyFault). unless (λ fault. refused 6 (verify_line c.grammar fault)) o s) (sym e) in
        same Fine a accepted_answer (same_end a accepted_answer is)
        (accept (inr (scanned, read, inr (s, spelled, ordered))))
    told_by (Some (verify.Unordered reader writer)) e a (told, explains, is) =
        same Fine a (answer 0 told) (same_end a (answer 0 told) is) (explain reader writer e told explains)
    told_by (Some (verify.Twice attribute)) e a is = refused_fault (verify.Twice attribute) a is
    told_by (Some (verify.Missing attribute)) e a is = refused_fault (verify.Missing attribute) a is
    told_by (Some verify.OutOfMemory) e a is = refused_fault verify.OutOfMemory a is

  -- the text of a schedule that is accepted, or whose first fault is a pair that a text explains
  of_explained_text : (c : CheckedGrammar) (text : Option (List ℕ))
      → ((s : NestingSchedule) → schedule c text (hands_on s) → Fine accepted_answer)
      → ((written : List ℕ) (scanned : Tokenized) (s : NestingSchedule) → text ≡ Some written
      → tokens section.Schedule 2147483647 written (hands_on scanned) → spelled_schedule c scanned (hands_on s)
      → (reader writer : ℕ) → orders.first_nest_fault (meant c) (nests_of s) ≡ Some (verify.Unordered reader writer)
      → (told : List ℕ) → IsExplanation c s told → Fine (answer 0 told))
      → (a : Answer) → explained c text (ends a) → Fine a
  of_explained_text c None accept explain =
      two Fine (automatic_schedule c) (λ s. Is (ends accepted_answer)) (of_schedule c None)
      (λ s ordered a is. same Fine a accepted_answer (same_end a accepted_answer is) (accept s ordered))
  of_explained_text c (Some text) accept explain =
      two Fine (tokens section.Schedule 2147483647 text)
      (λ scanned. Then (spelled_schedule c scanned) (explained_schedule c))
      (of_tokens section.Schedule of_schedule_status 2147483647 text)
      (λ scanned read.
      two Fine (spelled_schedule c scanned) (explained_schedule c)
      (call_ends Fine schedules.OutOfMemory (λ fault. refused 6 (schedule_line fault)) (NestAnswers c scanned)
      (λ fault. line 6 of_schedule_status (schedule_line fault)))
      (λ (s : NestingSchedule) spelled.
      told_by c text scanned read s spelled (accept s) (explain text scanned s refl read spelled)
      (orders.first_nest_fault (meant c) (nests_of s)) refl))

  -- a grammar and its schedule, accepted or with a pair that a text explains
  pub of_explained : (bytes : List ℕ)
      → ((c : CheckedGrammar) (s : NestingSchedule) (p : Page) → page rules_alone bytes (hands_on p)
      → grammar p.width p.grammar (hands_on c) → schedule c p.schedule (hands_on s) → Fine accepted_answer)
      → ((c : CheckedGrammar) (s : NestingSchedule) (p : Page) → page rules_alone bytes (hands_on p)
      → grammar p.width p.grammar (hands_on c) → (written : List ℕ) (scanned : Tokenized) → p.schedule ≡ Some written
      → tokens section.Schedule 2147483647 written (hands_on scanned) → spelled_schedule c scanned (hands_on s)
      → (reader writer : ℕ) → orders.first_nest_fault (meant c) (nests_of s) ≡ Some (verify.Unordered reader writer)
      → (told : List ℕ) → IsExplanation c s told → Fine (answer 0 told))
      → ((a : Answer) → page rules_alone bytes (ends a) → Fine a)
      → (a : Answer) → explained_page bytes (ends a) → Fine a
  of_explained bytes accept explain paged =
      two Fine (page rules_alone bytes) (λ p. Then (grammar p.width p.grammar) (λ c. explained c p.schedule)) paged
      (λ p read.
      two Fine (grammar p.width p.grammar) (λ c. explained c p.schedule) (of_grammar p.width p.grammar)
      (λ c lawful.
      of_explained_text c p.schedule (λ s ordered. accept c s p read lawful ordered)
      (λ written scanned s is tokens_are spelled.
      explain c s p read lawful written scanned is tokens_are spelled)))

  -- a noncircular grammar and a tree, and what goes on with them
  pub of_demand : (bytes : List ℕ) (text : CheckedGrammar → Forest → List Value → List ℕ)
      → ((c : CheckedGrammar) (p : Page) (t : Forest) → page unscheduled_page bytes (hands_on p)
      → grammar p.width p.grammar (hands_on c) → IsNoncircular (meant c) → grown_tree c (document_text p) (hands_on t)
      → (a : Answer) → shown_by text c t (ends a) → Fine a)
      → ((a : Answer) → page unscheduled_page bytes (ends a) → Fine a)
      → (a : Answer) → solved_by_demand bytes text (ends a) → Fine a
  of_demand bytes text each paged =
      two Fine (page unscheduled_page bytes)
      (λ p. Then (grammar p.width p.grammar)
      (λ c. Then (noncircular_grammar c) (λ _. Then (grown_tree c (document_text p)) (shown_by text c))))
      paged
      (λ p read.
      two Fine (grammar p.width p.grammar)
      (λ c. Then (noncircular_grammar c) (λ _. Then (grown_tree c (document_text p)) (shown_by text c)))
      (of_grammar p.width p.grammar)
      (λ c lawful.
      two Fine (noncircular_grammar c) (λ _. Then (grown_tree c (document_text p)) (shown_by text c))
      (of_noncircular c)
      (λ k told.
      two Fine (grown_tree c (document_text p)) (shown_by text c) (of_grown c (document_text p))
      (λ t grown. each c p t read lawful told.1 grown))))

  -- a tree with edits of it, and what goes on with them
  pub of_anew : (bytes : List ℕ)
      → ((c : CheckedGrammar) (s : NestingSchedule) (p : Page) (t : Forest) (es : List Edit) → page edited_page bytes (hands_on p)
      → grammar p.width p.grammar (hands_on c) → schedule c p.schedule (hands_on s)
      → tree c s (document_text p) (hands_on t) → edits c t (edits_text p) (hands_on es)
      → (a : Answer) → edited_by c t es (ends a) → Fine a)
      → ((a : Answer) → page edited_page bytes (ends a) → Fine a)
      → (a : Answer) → solved_anew bytes (ends a) → Fine a
  of_anew bytes each =
      of_rules edited_page bytes (λ c s p. Then (tree c s (document_text p)) (edited_tree_shown p c))
      (λ c s p read lawful ordered.
      two Fine (tree c s (document_text p)) (edited_tree_shown p c) (of_tree c s (document_text p))
      (λ t spelled.
      two Fine (edits c t (edits_text p)) (edited_by c t) (of_edits c t (edits_text p))
      (λ es changed. each c s p t es read lawful ordered spelled changed)))
