-- A page has one grammar and one schedule, or one refusal of them.
use Rattle.std.proofs.Common.{◌≡◌, ◌⊎◌, inl, inr, refl, sym, ap, ◌∙◌, subst, ℕ, List, Option, Some, None}
use Rattle.ftl_base.specs.declared.width.Width.{Width}
use Rattle.ftl_order.specs.orders.Lawful.{IsLawful}
use Rattle.ftl_order.specs.orders.OneTable.{ExactlyOneList}
use Rattle.ftl_order.specs.orders.Schedule as order
use Rattle.ftl_tokens.specs.scanner.Tokenized.{Tokenized}
use Rattle.ftl_page.specs.declared.sections.fault.Section.TheVariants as section
use Rattle.ftl_grammar.specs.reading.Read.{ReadsGrammar}
use Rattle.ftl_grammar.specs.declared.reading.fault.SyntaxFault.TheVariants as syntax
use Rattle.ftl_grammar.proofs.reading.AnswerLemmas as grammars
use Rattle.ftl_meaning.specs.faults.Checked.{CheckedGrammar}
use Rattle.ftl_meaning.specs.faults.FirstFault.{first_fault}
use Rattle.ftl_meaning.proofs.faults.SpelledKinds.{spelled_kinds}
use Rattle.ftl_meaning.specs.lawful.Faultless.{IsFaultless}
use Rattle.ftl_meaning.proofs.lawful.Lawfulness.{faultless_lawful}
use Rattle.ftl_deps.specs.reads.Meant.{meant}
use Rattle.ftl_nest_check.specs.stages.Nested.{nests_of}
use Rattle.ftl_nest_check.specs.declared.stages.types.NestingSchedule.{NestingSchedule}
use Rattle.ftl_schedule.specs.declared.names.fault.ScheduleFault.TheVariants as schedules
use Rattle.ftl_nest_check.specs.check.NestFault.{first_nest_fault}
use Rattle.ftl_nest_check.proofs.check.NestFaults.{faultless}
use Rattle.ftl_nest_text.specs.reading.NestReading.{NestAnswers}
use Rattle.ftl_nest_text.proofs.reading.NestAnswerLemmas.{one_schedule, some_schedule}
use Rattle.ftl_nest_text.proofs.reading.NestRead.{read_computed, read_kept}
use Rattle.ftl_nests.specs.Flat.{flat_schedule, plain}
use Rattle.ftl_nests.specs.Nests.{IsNestOrdered}
use Rattle.ftl_nests.proofs.FlatLaws.{flat_pairs}
use Rattle.ftl_nests.proofs.Plain.{plain_ordered}
use Rattle.ftl_order.proofs.orders.Scheduled.{one_list_under}
use Rattle.ftl_model.specs.layout.Tree.{Forest}
use Rattle.ftl_model.specs.layout.TreeOf.{IsTreeOf}
use Rattle.ftl_order.specs.automatic.Automatic.{IsAutomatic, IsStuck}
use Rattle.ftl_order.proofs.automatic.Found.{one_of_both}
use Rattle.ftl_order.proofs.automatic.Ones.{not_both, one_automatic, one_left}
use Rattle.ftl_order.proofs.automatic.Ordered.{automatic_ordered}
use Rattle.ftl_answer.specs.refusals.GrammarLines.{grammar_line}
use Rattle.ftl_answer.specs.refusals.ScheduleLines.{schedule_line, stuck_line, verify_line}
use Rattle.ftl_answer.specs.refusals.TextLines.{syntax_line}
use Rattle.ftl_answer.specs.answers.Answer.{refused}
use Rattle.ftl_answer.specs.answers.Stages.{Outcome, Then, ends, hands_on}
use Rattle.ftl_answer.specs.answers.Texts.{automatic_schedule, checked_grammar, grammar, lawful_grammar, ordered_schedule}
use Rattle.ftl_answer.specs.answers.Texts.{schedule, spelled_grammar, spelled_schedule, tokens}
use Rattle.ftl_answer.proofs.answers.Ones.{HasOne, handed, is_one, then_handed, then_one, result_one}
use Rattle.ftl_answer.proofs.answers.NestsBack.{nests_back, one_stands, same_nests}

-- ---- the grammar

spelled_one : (scanned : Tokenized) → HasOne (spelled_grammar scanned)
spelled_one scanned =
    result_one syntax.OutOfMemory (λ fault. refused 5 (syntax_line fault)) (ReadsGrammar scanned)
    (grammars.some_answer scanned) (grammars.any_two_answers scanned)

pub grammar_one : (width : Width) (text : List ℕ) → HasOne (grammar width text)
grammar_one width text =
    then_one (tokens section.Grammar 2147483647 text)
    (λ scanned. Then (spelled_grammar scanned) (lawful_grammar width)) (is_one _)
    (λ scanned is. then_one (spelled_grammar scanned) (lawful_grammar width) (spelled_one scanned) (λ g read. is_one _))

-- it is lawful, in this width
pub record IsHanded (width : Width) (c : CheckedGrammar) : Type 0 where
  pub width_is : c.width ≡ width
  pub faultless : IsFaultless c.grammar

pub grammar_handed : (width : Width) (text : List ℕ) (c : CheckedGrammar) → grammar width text (hands_on c)
    → IsHanded width c
grammar_handed width text c all =
    let a =
    then_handed (tokens section.Grammar 2147483647 text)
    (λ scanned. Then (spelled_grammar scanned) (lawful_grammar width)) c all in
    let b = then_handed (spelled_grammar a.0) (lawful_grammar width) c a.2 in
    let d = handed (λ fault. refused 5 (grammar_line fault)) (first_fault b.0) (checked_grammar width b.0) c b.2 in
    subst (IsHanded width) (sym d.1)
    (record {
      width_is = refl;
      faultless = record { faults = d.0; kinds = spelled_kinds b.1.spells };
    })

-- so its meaning is lawful
pub handed_law : (width : Width) (c : CheckedGrammar) → IsHanded width c → IsLawful (meant c)
handed_law width c is = faultless_lawful c.grammar c.width is.faultless

-- ---- the schedule

pub spelled_schedule_one : (c : CheckedGrammar) (scanned : Tokenized) → HasOne (spelled_schedule c scanned)
spelled_schedule_one c scanned =
    result_one schedules.OutOfMemory (λ fault. refused 6 (schedule_line fault)) (NestAnswers c scanned)
    (some_schedule c scanned) (one_schedule c scanned)

module _ (c : CheckedGrammar) (fine : IsFaultless c.grammar) where
  law : IsLawful (meant c)
  law = faultless_lawful c.grammar c.width fine

  -- the automatic one
  automatic_one : HasOne (automatic_schedule c)
  automatic_one = record { some = by (one_of_both (meant c) law); any_two = any }
    where
      by : ((s : order.Schedule) × IsAutomatic (meant c) s) ⊎ ((left : List ℕ) × IsStuck (meant c) left)
          → (outcome : Outcome NestingSchedule) × automatic_schedule c outcome
      by (inl found) = (hands_on (nests_back (plain found.0)), (found.0, found.1, same_nests (plain found.0)))
      by (inr stuck) = (ends (refused 6 (stuck_line c.grammar stuck.0)), (stuck.0, stuck.1, refl))

      any : (o u : Outcome NestingSchedule) → automatic_schedule c o → automatic_schedule c u → o ≡ u
      any (hands_on s) (hands_on t) p q =
          ap hands_on
          (one_stands s t (p.2 ∙ (ap plain (one_automatic (meant c) p.0 q.0 p.1 q.1) ∙ sym q.2)))
      any (hands_on s) (ends b) p q = absurd (not_both (meant c) p.0 q.0 p.1 q.1)
      any (ends a) (hands_on t) p q = absurd (not_both (meant c) q.0 p.0 q.1 p.1)
      any (ends a) (ends b) p q =
          ap ends
          (p.2
          ∙ (ap (λ (left : List ℕ). refused 6 (stuck_line c.grammar left)) (one_left (meant c) p.0 q.0 p.1 q.1)
          ∙ sym q.2))

  pub schedule_one : (text : Option (List ℕ)) → HasOne (schedule c text)
  schedule_one None = automatic_one
  schedule_one (Some text) =
      then_one (tokens section.Schedule 2147483647 text)
      (λ scanned. Then (spelled_schedule c scanned) (ordered_schedule c)) (is_one _)
      (λ scanned is.
      then_one (spelled_schedule c scanned) (ordered_schedule c) (spelled_schedule_one c scanned) (λ s read. is_one _))

  -- what was read has no fault, so it is ordered
  read_ordered : (scanned : Tokenized) (s : NestingSchedule) → spelled_schedule c scanned (hands_on s)
      → first_nest_fault (meant c) (nests_of s) ≡ None → IsNestOrdered (meant c) (nests_of s)
  read_ordered scanned s read =
      (faultless (meant c) (nests_of s) law (read_computed c fine.faults fine.kinds scanned s read)
      (read_kept c fine.faults fine.kinds scanned s read)).0

  pub schedule_ordered : (text : Option (List ℕ)) (s : NestingSchedule) → schedule c text (hands_on s)
      → IsNestOrdered (meant c) (nests_of s)
  schedule_ordered None s all =
      subst (IsNestOrdered (meant c)) (sym all.2)
      (plain_ordered (meant c) all.0 (automatic_ordered (meant c) all.0 law all.1))
  schedule_ordered (Some text) s all =
      let a =
      then_handed (tokens section.Schedule 2147483647 text)
      (λ scanned. Then (spelled_schedule c scanned) (ordered_schedule c)) s all in
      let b = then_handed (spelled_schedule c a.0) (ordered_schedule c) s a.2 in
      let d =
      handed (λ fault. refused 6 (verify_line c.grammar fault)) (first_nest_fault (meant c) (nests_of b.0)) b.0 s b.2 in
      subst (λ (x : NestingSchedule). IsNestOrdered (meant c) (nests_of x)) (sym d.1) (read_ordered a.0 b.0 b.1 d.0)

  -- so one list solves each tree
  pub one_list : (text : Option (List ℕ)) (s : NestingSchedule) → schedule c text (hands_on s) → (t : Forest)
      → IsTreeOf (meant c) t → ExactlyOneList (meant c) t
  one_list text s all t fits =
      one_list_under (meant c) (flat_schedule (nests_of s)) t law
      (flat_pairs (meant c) (nests_of s) law (schedule_ordered text s all)) fits
