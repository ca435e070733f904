-- What holds of each schedule with nests that was read.
use Rattle.std.proofs.Common.{◌≡◌, ℕ, ◌<◌, ◌≤◌, List, length, Some, None, Ok, sym, subst}
use Rattle.std.specs.List.{All, AllByRecursion}
use Rattle.std.specs.Prelude.{IfSome, Option}
use Rattle.ftl_checked.proofs.lookup.AttrInfos.{attribute_count_is}
use Rattle.ftl_deps.specs.reads.Meant.{meant}
use Rattle.ftl_meaning.specs.faults.Checked.{CheckedGrammar, all_attributes}
use Rattle.ftl_meaning.specs.faults.FirstFault.{first_fault}
use Rattle.ftl_meaning.specs.faults.Kinds.{HasKinds}
use Rattle.ftl_order.specs.faults.FaultLaws.{AreComputed}
use Rattle.ftl_tokens.specs.scanner.Tokenized.{Tokenized}
use Rattle.ftl_nests.specs.Nests.{outer_schedule}
use Rattle.ftl_schedule.specs.declared.stages.types.Pass.{Pass}
use Rattle.ftl_schedule.specs.declared.stages.types.Stage.{Stage}
use Rattle.ftl_schedule.proofs.printing.Known.{each_of}
use Rattle.ftl_nest_check.specs.declared.stages.types.Nest.{Nest}
use Rattle.ftl_nest_check.specs.declared.stages.types.NestingPass.{NestingPass}
use Rattle.ftl_nest_check.specs.declared.stages.types.NestingStage.{NestingStage}
use Rattle.ftl_nest_check.specs.declared.stages.types.NestingSchedule.{NestingSchedule}
use Rattle.ftl_nest_check.specs.stages.Nested.{AreNestsKept, IsWithinNestLimits, nests_of}
use Rattle.ftl_nest_text.specs.declared.syntax.types.WrittenNest.{WrittenNest}
use Rattle.ftl_nest_text.specs.declared.syntax.types.WrittenNestingPass.{WrittenNestingPass}
use Rattle.ftl_nest_text.specs.names.RegionTests.{region_tests}
use Rattle.ftl_nest_check.specs.stages.Known.{AreNestingStagesKnown, IsNestKnown, IsNestingPassKnown}
use Rattle.ftl_nest_text.specs.reading.NestLimits.{pass_total, stage_sizes}
use Rattle.ftl_nest_text.specs.reading.NestReading.{NestAnswers}
use Rattle.ftl_nest_text.proofs.names.CheckedTests.{class_known, number_known, numbers_known, told}
use Rattle.ftl_nest_text.proofs.names.NamedNests.{IsNested, IsPassFrom, inner_from, schedule_from, stages_from}
use Rattle.ftl_nest_text.proofs.reading.NestInOrder.{spelled_none}
use Rattle.ftl_nest_text.proofs.reading.NestKept.{named_computed, named_kept}
use Rattle.ftl_nest_text.proofs.reading.NestReadFrom.{read_from}
use Rattle.ftl_nest_text.proofs.reading.NestShapes.{sizes_alike, spelled_some}
use Rattle.ftl_nest_text.proofs.reading.NestSizes.{IsSize, both_hold, faultless_sizes, limits_by_sizes}

-- it is within the limits
pub read_limits : (c : CheckedGrammar) (scanned : Tokenized) (s : NestingSchedule) → NestAnswers c scanned (Ok s)
    → IsWithinNestLimits (nests_of s)
read_limits c scanned s answer =
    let read = read_from c scanned s answer in
    let sizes = stage_sizes read.written.stages in
    let kept = faultless_sizes sizes read.limits in
    let same = sym (sizes_alike (region_tests (meant c)) c.grammar read.written s read.named) in
    limits_by_sizes (nests_of s) (subst (λ (ns : List ℕ). pass_total ns ≤ 2048) same kept.0)
    (subst (λ (ns : List ℕ). AllByRecursion IsSize ns) same (both_hold sizes (spelled_some read.spells) kept.1))

module _ (c : CheckedGrammar) (faults : first_fault c.grammar ≡ None) (kinds : HasKinds c.grammar) (scanned : Tokenized)
    (s : NestingSchedule) (answer : NestAnswers c scanned (Ok s)) where
  pub read_computed : AreComputed (meant c) (outer_schedule (nests_of s))
  read_computed =
      let read = read_from c scanned s answer in
      named_computed c (region_tests (meant c)) (told c faults kinds) read.written s read.named

  pub read_kept : AreNestsKept (meant c) (nests_of s)
  read_kept =
      let read = read_from c scanned s answer in
      named_kept c (region_tests (meant c)) (told c faults kinds) read.written s read.named
      (spelled_none read.written read.spells)

  abbrev IsKnown : ℕ → Type 0
  IsKnown a = a < length (all_attributes c.grammar)

  known : (a : ℕ) → a < (meant c).attribute_count → IsKnown a
  known a within = subst (λ n. a < n) (sym (attribute_count_is c.grammar)) within

  pass_known : (x : WrittenNestingPass) (p : NestingPass) → IsPassFrom (region_tests (meant c)) c.grammar x p
      → IsNestingPassKnown c.grammar p
  pass_known x p from = record {
    attributes = each_of IsKnown p.attrs (λ a there. known a (numbers_known c x.attrs p.attrs from.own a there));
    nest = by_nest x.nest p.nest from.nested;
  }
    where
      by_nest : (n : Option WrittenNest) (m : Option Nest) → IsNested (region_tests (meant c)) c.grammar x.attrs n m
          → IfSome m (IsNestKnown c.grammar)
      by_nest n None is = tt
      by_nest None (Some m) is = absurd is
      by_nest (Some n) (Some m) is = record {
        host = class_known c n.host m.host is.host.named;
        inner =
            each_of (λ (t : Stage). All (λ (q : Pass). All IsKnown q.attrs) t.passes) m.inner.stages (λ t stage.
            each_of (λ (q : Pass). All IsKnown q.attrs) t.passes (λ q pass.
            each_of IsKnown q.attrs (λ a there.
            let y =
            stages_from (region_tests (meant c)) c.grammar m.host n.stages m.inner.stages is.stages t stage q pass a
            there in
            known a
            (number_known c y.0 a (inner_from (region_tests (meant c)) c.grammar m.host y.0 a y.1).0))));
      }

  pub read_known : AreNestingStagesKnown c.grammar s.stages
  read_known =
      let read = read_from c scanned s answer in
      each_of (λ (t : NestingStage). All (IsNestingPassKnown c.grammar) t.passes) s.stages (λ t stage.
      each_of (IsNestingPassKnown c.grammar) t.passes (λ p pass.
      let from = schedule_from (region_tests (meant c)) c.grammar read.written s read.named t stage p pass in
      pass_known from.pass p from.from))
