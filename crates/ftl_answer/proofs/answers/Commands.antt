-- Words and bytes have one answer.
use Rattle.std.proofs.Common.{◌≡◌, ◌≢◌, ◌≤◌, refl, sym, ap, ap₂, subst, ◌∙◌, ℕ, Bool, true, false, List, length}
use Rattle.std.proofs.Common.{Option, Some, None, Result, Ok, Err, arith}
use Rattle.std.specs.Prelude.{IfSome, nat_lt, if◌then◌else◌}
use Rattle.std.specs.Str.{IsUtf8}
use Rattle.std.proofs.lemmas.Bool.{ltb-false}
use Rattle.std.proofs.lemmas.Str.{IsUtf8-nil}
use Rattle.ftl_edits.specs.declared.meaning.types.Edit.{Edit}
use Rattle.ftl_example.specs.nests.examples.NestExamples.{NestExamplesBySize}
use Rattle.ftl_example.specs.nests.pairs.NestPair.{NestFaultsHavePairs}
use Rattle.ftl_model.specs.layout.Table.{value_in}
use Rattle.ftl_model.specs.layout.Tree.{Forest}
use Rattle.ftl_model.specs.layout.TreeOf.{IsTreeOf}
use Rattle.ftl_model.specs.layout.Values.{Value}
use Rattle.ftl_noncircular.specs.grammars.NoncircularLaws.{CirclesAreDecided, OneListWhereNoncircular}
use Rattle.ftl_order.specs.orders.Lawful.{IsLawful}
use Rattle.ftl_order.specs.orders.OneTable.{ExactlyOneList}
use Rattle.ftl_page.specs.sections.Page.{page_of}
use Rattle.ftl_page.specs.sections.Texts.{HasTextsUpTo}
use Rattle.ftl_page.specs.declared.sections.fault.PageFault.{PageFault}
use Rattle.ftl_page.specs.declared.sections.page.Need.{Need}
use Rattle.ftl_page.specs.declared.sections.page.Page.{Page}
use Rattle.ftl_page.proofs.sections.TextLemmas.{answer_is_short}
use Rattle.ftl_boxes.specs.SamplePage.{sample_page_of}
use Rattle.ftl_page.specs.commands.Commands.{command_of}
use Rattle.ftl_page.specs.declared.commands.command.Command.{Command}
use Rattle.ftl_page.specs.declared.commands.command.Command.TheVariants as command
use Rattle.ftl_meaning.specs.faults.Checked.{CheckedGrammar}
use Rattle.ftl_relayout.specs.laws.Relayout.{AreTouched}
use Rattle.ftl_relayout.specs.relaid.Relaid.{edited_tree}
use Rattle.ftl_deps.specs.reads.Meant.{meant}
use Rattle.ftl_nest_check.specs.declared.stages.types.NestingSchedule.{NestingSchedule}
use Rattle.ftl_answer.specs.refusals.PageLines.{page_line, too_long_line, words_line}
use Rattle.ftl_answer.specs.answers.Answer.{Answer, refused}
use Rattle.ftl_answer.specs.answers.Answers.{AskForNoExplanation, HasOneAnswer, IsLaidOutAnew, answered, boxes_and_touched}
use Rattle.ftl_answer.specs.answers.Answers.{boxes_of, command_in}
use Rattle.ftl_answer.specs.answers.Answers.{document_text, edited_answer, edited_by, edited_page, edited_tree_shown}
use Rattle.ftl_answer.specs.answers.Answers.{edits_text, obeyed, rules_alone, solved_anew}
use Rattle.ftl_answer.specs.answers.Answers.{shown_answer, shown_by, solved, solved_by_demand, summary_of, text_or_none}
use Rattle.ftl_answer.specs.answers.Answers.{unscheduled_page, whole_page, with_rules}
use Rattle.ftl_answer.specs.answers.Stages.{Is, Outcome, Stage, Then, ends, hands_on, result_outcome}
use Rattle.ftl_answer.specs.answers.Texts.{edits, grammar, grown_tree, noncircular_grammar, page, schedule, tree}
use Rattle.ftl_answer.proofs.answers.Circles.{noncircular_one}
use Rattle.ftl_answer.proofs.answers.DocumentBytes.{AreUtf8, page_utf8}
use Rattle.ftl_answer.proofs.answers.Explained.{page_explained}
use Rattle.ftl_answer.proofs.answers.Ones.{HasOne, HasSome, end_is_no_value, is_one, same_end, same_value, then_one}
use Rattle.ftl_answer.proofs.answers.Ones.{then_some}
use Rattle.ftl_answer.proofs.answers.Rules.{IsHanded, grammar_handed, grammar_one, handed_law, one_list, schedule_one}
use Rattle.ftl_answer.proofs.answers.Touched.{touched_count, touched_listed}
use Rattle.ftl_answer.proofs.answers.TreesEdited.{edited_fits, edits_fit, edits_one}
use Rattle.ftl_answer.proofs.answers.TreesRead.{grown_fits, grown_one, tree_fits, tree_one}

-- ---- pages

-- the document of a page that is handed on is short, and in UTF-8, and so are its edits
pub record IsRead (p : Page) : Type 0 where
  pub short : length (document_text p) ≤ 67108864
  pub utf8 : IsUtf8 (document_text p)
  pub edits_short : length (edits_text p) ≤ 67108864
  pub edits_utf8 : IsUtf8 (edits_text p)

text_short : (o : Option (List ℕ)) → IfSome o (λ text. length text ≤ 67108864) → length (text_or_none o) ≤ 67108864
text_short None h = omega arith
text_short (Some text) h = h

text_utf8 : (o : Option (List ℕ)) → IfSome o IsUtf8 → IsUtf8 (text_or_none o)
text_utf8 None h = IsUtf8-nil
text_utf8 (Some text) h = h

of_result : (need : Need) (bytes : List ℕ) (p : Page) → length bytes ≤ 67108864 → (r : Result Page PageFault)
    → page_of bytes need ≡ r → hands_on p ≡ result_outcome (λ fault. refused 4 (page_line fault)) r → IsRead p
of_result need bytes p few (Ok q) e is =
    let same : p ≡ q = same_value p q is in
    let read : page_of bytes need ≡ Ok p = e ∙ ap Ok (sym same) in
    let texts : HasTextsUpTo 67108864 p = answer_is_short (Ok p) bytes need few read in
    let are : AreUtf8 p = page_utf8 bytes need p read in
    record {
      short = text_short p.document texts.document;
      utf8 = text_utf8 p.document are.document;
      edits_short = text_short p.edits texts.edits;
      edits_utf8 = text_utf8 p.edits are.edits;
    }
of_result need bytes p few (Err fault) e is = absurd (end_is_no_value (refused 4 (page_line fault)) p (sym is))

by_length : (need : Need) (bytes : List ℕ) (p : Page) (b : Bool) → nat_lt 67108864 (length bytes) ≡ b
    → hands_on p ≡ (if b then ends (refused 4 too_long_line)
    else result_outcome (λ fault. refused 4 (page_line fault)) (page_of bytes need)) → IsRead p
by_length need bytes p true e is = absurd (end_is_no_value (refused 4 too_long_line) p (sym is))
by_length need bytes p false e is = of_result need bytes p (ltb-false 67108864 (length bytes) e) (page_of bytes need) refl is

pub page_read : (need : Need) (bytes : List ℕ) (p : Page) → page need bytes (hands_on p) → IsRead p
page_read need bytes p is = by_length need bytes p (nat_lt 67108864 (length bytes)) refl is

-- ---- tables

shown_one : (text : CheckedGrammar → Forest → List Value → List ℕ) (c : CheckedGrammar) (t : Forest)
    → ExactlyOneList (meant c) t → HasOne (shown_by text c t)
shown_one text c t one = record {
  some = (ends (shown_answer text c t one.some_solves.0), (one.some_solves.0, one.some_solves.1, refl));
  any_two = λ o u p q.
      p.2
      ∙ (ap (λ (values : List Value). ends (shown_answer text c t values)) (one.any_two_equal p.0 q.0 p.1 q.1)
      ∙ sym q.2);
}

-- edits of a tree lay it out anew in one way
pub record HasOneChange (c : CheckedGrammar) (t : Forest) (es : List Edit) : Type 0 where
  pub some : (values : List Value) × (touched : List ℕ) × IsLaidOutAnew c t es values touched
  pub any_two :
      (values other : List Value) (touched others : List ℕ) → IsLaidOutAnew c t es values touched
      → IsLaidOutAnew c t es other others → (values ≡ other) × (length touched ≡ length others)

pub one_change : (c : CheckedGrammar) (t : Forest) (es : List Edit) → IsLawful (meant c)
    → IsTreeOf (meant c) (edited_tree c t es) → ExactlyOneList (meant c) t
    → ExactlyOneList (meant c) (edited_tree c t es) → HasOneChange c t es
one_change c t es law fits before after =
    let g = meant c in
    let u = edited_tree c t es in
    let some = touched_listed g u (value_in g u before.some_solves.0) (value_in g u after.some_solves.0) law fits in
    record {
      some = (
        after.some_solves.0,
        some.0,
        record {
          old = before.some_solves.0;
          solved = before.some_solves.1;
          anew = record { solves = after.some_solves.1; touched = some.1 };
        },
      );
      any_two = λ values other touched others p q.
          let same = after.any_two_equal values other p.anew.solves q.anew.solves in
          let old = before.any_two_equal p.old q.old p.solved q.solved in
          let there : AreTouched g u (value_in g u q.old) (value_in g u other) touched =
          subst (λ vs. AreTouched g u (value_in g u q.old) (value_in g u vs) touched) same
          (subst (λ vs. AreTouched g u (value_in g u vs) (value_in g u values) touched) old p.anew.touched) in
          (same, touched_count g u (value_in g u q.old) (value_in g u other) touched others there q.anew.touched);
    }

edited_one : (c : CheckedGrammar) (t : Forest) (es : List Edit) → HasOneChange c t es → HasOne (edited_by c t es)
edited_one c t es one = record {
  some = (
    ends (edited_answer c t es one.some.0 one.some.1),
    (one.some.0, one.some.1, one.some.2, refl),
  );
  any_two = λ o u p q.
      let same = one.any_two p.0 q.0 p.1 q.1 p.2 q.2 in
      p.3
      ∙ (ap₂
      (λ (values : List Value) (count : ℕ). ends (shown_answer (boxes_and_touched count) c (edited_tree c t es) values))
      same.0 same.1
      ∙ sym q.3);
}

-- ---- commands

rules_one : (need : Need) (bytes : List ℕ) (next : CheckedGrammar → NestingSchedule → Page → Stage ⊥)
    → ((c : CheckedGrammar) (s : NestingSchedule) (p : Page) → IsRead p → IsHanded p.width c
    → schedule c p.schedule (hands_on s) → HasOne (next c s p))
    → HasOne (with_rules need bytes next)
rules_one need bytes next one =
    then_one (page need bytes)
    (λ p. Then (grammar p.width p.grammar) (λ c. Then (schedule c p.schedule) (λ s. next c s p))) (is_one _)
    (λ p read.
    then_one (grammar p.width p.grammar) (λ c. Then (schedule c p.schedule) (λ s. next c s p))
    (grammar_one p.width p.grammar)
    (λ c is.
    let law = grammar_handed p.width p.grammar c is in
    then_one (schedule c p.schedule) (λ s. next c s p) (schedule_one c law.faultless p.schedule)
    (λ s ordered. one c s p (page_read need bytes p read) law ordered)))

solved_one : (bytes : List ℕ) (text : CheckedGrammar → Forest → List Value → List ℕ) → HasOne (solved bytes text)
solved_one bytes text =
    rules_one whole_page bytes (λ c s p. Then (tree c s (document_text p)) (shown_by text c))
    (λ c s p read law ordered.
    then_one (tree c s (document_text p)) (shown_by text c) (tree_one c (document_text p) read.short read.utf8 s)
    (λ t is.
    shown_one text c t
    (one_list c law.faultless p.schedule s ordered t
    (tree_fits c (document_text p) read.short read.utf8 s law.faultless t is))))

-- the tree of an accepted document, with its edits
pub tables_of_edits : (c : CheckedGrammar) (s : NestingSchedule) (p : Page) (t : Forest) (es : List Edit) → IsRead p
    → IsHanded p.width c → schedule c p.schedule (hands_on s) → tree c s (document_text p) (hands_on t)
    → edits c t (edits_text p) (hands_on es) → IsTreeOf (meant c) (edited_tree c t es) × HasOneChange c t es
tables_of_edits c s p t es read law ordered spelled changed =
    let lawful = handed_law p.width c law in
    let fits = tree_fits c (document_text p) read.short read.utf8 s law.faultless t spelled in
    let after =
    edited_fits c t lawful fits es (edits_fit c t (edits_text p) read.edits_short read.edits_utf8 es changed) in (
      after,
      one_change c t es lawful after (one_list c law.faultless p.schedule s ordered t fits)
          (one_list c law.faultless p.schedule s ordered (edited_tree c t es) after),
    )

anew_one : (bytes : List ℕ) → HasOne (solved_anew bytes)
anew_one bytes =
    rules_one edited_page bytes (λ c s p. Then (tree c s (document_text p)) (edited_tree_shown p c))
    (λ c s p read law ordered.
    then_one (tree c s (document_text p)) (edited_tree_shown p c)
    (tree_one c (document_text p) read.short read.utf8 s)
    (λ t spelled.
    then_one (edits c t (edits_text p)) (edited_by c t) (edits_one c t (edits_text p))
    (λ es changed. edited_one c t es (tables_of_edits c s p t es read law ordered spelled changed).1)))

-- the command that the words are, from the stage that finds it
pub command_from : (o : Option Command) (c : Command) → hands_on c ≡ command_in o → o ≡ Some c
command_from None c is = absurd (end_is_no_value (refused 2 words_line) c (sym is))
command_from (Some other) c is = ap (λ (x : Command). Some x) (sym (same_value c other is))

module _ (circles : CirclesAreDecided) (by_demand : OneListWhereNoncircular) where
  -- the grammar of a page for evaluation by demand, and the table of its document
  demanded_one : (c : CheckedGrammar) (p : Page) (text : CheckedGrammar → Forest → List Value → List ℕ) → IsRead p
      → IsHanded p.width c
      → HasOne (Then (noncircular_grammar c) (λ _. Then (grown_tree c (document_text p)) (shown_by text c)))
  demanded_one c p text read law =
      let lawful = handed_law p.width c law in
      then_one (noncircular_grammar c) (λ _. Then (grown_tree c (document_text p)) (shown_by text c))
      (noncircular_one c (circles (meant c)))
      (λ k told.
      then_one (grown_tree c (document_text p)) (shown_by text c)
      (grown_one c (document_text p) read.short read.utf8)
      (λ t grown.
      shown_one text c t
      (by_demand (meant c) t lawful told.1
      (grown_fits c (document_text p) read.short read.utf8 law.faultless t grown))))

  by_demand_one : (bytes : List ℕ) (text : CheckedGrammar → Forest → List Value → List ℕ)
      → HasOne (solved_by_demand bytes text)
  by_demand_one bytes text =
      then_one (page unscheduled_page bytes)
      (λ p. Then (grammar p.width p.grammar)
      (λ c. Then (noncircular_grammar c) (λ _. Then (grown_tree c (document_text p)) (shown_by text c)))) (is_one _)
      (λ p read.
      then_one (grammar p.width p.grammar)
      (λ c. Then (noncircular_grammar c) (λ _. Then (grown_tree c (document_text p)) (shown_by text c)))
      (grammar_one p.width p.grammar)
      (λ c is. demanded_one c p text (page_read unscheduled_page bytes p read) (grammar_handed p.width p.grammar c is)))

  obeyed_one : (c : Command) (bytes : List ℕ) → c ≢ command.Explain → HasOne (obeyed c bytes)
  obeyed_one (command.Run how) bytes other = solved_one bytes boxes_of
  obeyed_one command.Check bytes other = rules_one rules_alone bytes _ (λ c s p read law ordered. is_one _)
  obeyed_one command.Schedule bytes other = rules_one rules_alone bytes _ (λ c s p read law ordered. is_one _)
  obeyed_one command.Explain bytes other = absurd (other refl)
  obeyed_one command.Demand bytes other = by_demand_one bytes boxes_of
  obeyed_one (command.Edit how) bytes other = anew_one bytes
  obeyed_one (command.Sample pieces name how) bytes other =
      then_one (Is (result_outcome (λ fault. refused 2 words_line) (sample_page_of name pieces)))
      (λ text. solved text (summary_of name)) (is_one _) (λ text is. solved_one text (summary_of name))

  answered_one : (words : List (List ℕ)) (bytes : List ℕ) → AskForNoExplanation words → HasOne (answered words bytes)
  answered_one words bytes other =
      then_one (Is (command_in (command_of words))) (λ c. obeyed c bytes) (is_one _)
      (λ c is.
      obeyed_one c bytes (λ e. other (command_from (command_of words) c is ∙ ap (λ (x : Command). Some x) e)))

  module _ (by_size : NestExamplesBySize) (pairs : NestFaultsHavePairs) where
    obeyed_some : (c : Command) (bytes : List ℕ) → HasSome (obeyed c bytes)
    obeyed_some (command.Run how) bytes = (obeyed_one (command.Run how) bytes (λ e. absurd cc)).some
    obeyed_some command.Check bytes = (obeyed_one command.Check bytes (λ e. absurd cc)).some
    obeyed_some command.Schedule bytes = (obeyed_one command.Schedule bytes (λ e. absurd cc)).some
    obeyed_some command.Explain bytes = page_explained by_size pairs bytes
    obeyed_some command.Demand bytes = (obeyed_one command.Demand bytes (λ e. absurd cc)).some
    obeyed_some (command.Edit how) bytes = (obeyed_one (command.Edit how) bytes (λ e. absurd cc)).some
    obeyed_some (command.Sample pieces name how) bytes =
        (obeyed_one (command.Sample pieces name how) bytes (λ e. absurd cc)).some

    answered_some : (words : List (List ℕ)) (bytes : List ℕ) → HasSome (answered words bytes)
    answered_some words bytes =
        then_some (Is (command_in (command_of words))) (λ c. obeyed c bytes) (is_one _).some (λ c is. obeyed_some c bytes)

    -- words and bytes have an answer, and but for explanations one alone
    pub has_one_answer : (words : List (List ℕ)) (bytes : List ℕ) → HasOneAnswer words bytes
    has_one_answer words bytes = record {
      some = some (answered_some words bytes).0 (answered_some words bytes).1;
      any_two = λ other a b p q. same_end a b ((answered_one words bytes other).any_two (ends a) (ends b) p q);
    }
      where
        some : (o : Outcome ⊥) → answered words bytes o → (a : Answer) × answered words bytes (ends a)
        some (ends a) p = (a, p)
        some (hands_on x) p = absurd x
