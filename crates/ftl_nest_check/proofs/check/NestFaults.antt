-- What follows of a schedule with nests that has no fault.
use Rattle.std.proofs.Common.{◌≡◌, ◌≢◌, ◌↔◌, ℕ, ◌&&◌, not, List, [], Option, Some, None, Result, Ok, Err, refl, sym, ap, subst, ◌∙◌}
use Rattle.std.specs.List.{enumerate_from, range_with_len}
use Rattle.ftl_model.specs.lists.Lists.{is_listed}
use Rattle.std.specs.Option.{option_or}
use Rattle.ftl_model.proofs.lists.FirstAlong.{neither}
use Rattle.ftl_model.specs.layout.AttributeGrammar.{AttributeGrammar, is_input}
use Rattle.ftl_deps.specs.reads.Meant.{meant}
use Rattle.ftl_meaning.specs.faults.Checked.{CheckedGrammar}
use Rattle.ftl_order.specs.dependencies.DepReads.{rule_reads}
use Rattle.ftl_order.specs.orders.Lawful.{IsLawful}
use Rattle.ftl_order.specs.orders.Schedule.{entries}
use Rattle.ftl_order.specs.faults.FaultLaws.{AreComputed}
use Rattle.ftl_order.specs.faults.FirstFault.{fault_by, first_missing, first_twice, missing_fault}
use Rattle.ftl_order.specs.declared.faults.fault.VerifyFault.{VerifyFault}
use Rattle.ftl_order.specs.declared.faults.fault.VerifyFault.TheVariants.{Missing, OutOfMemory}
use Rattle.ftl_order.proofs.faults.Entries.{none_is_missing, none_is_twice, stands_once}
use Rattle.ftl_schedule.proofs.check.NeverMemory.{along_never, by_never, if_never, or_never, twice_never}
use Rattle.ftl_nests.specs.Nests.{IsNestOrdered, NestPlacing, NestingSchedule, nest_placing_of, outer_schedule}
use Rattle.ftl_regions.specs.pairs.NestReads.{first_refused, refused_reads, refused_writer}
use Rattle.ftl_regions.proofs.pairs.AllPairs.{none_refused, pairs_ordered}
use Rattle.ftl_nest_check.specs.check.NestAccepted.{IsNestAccepted, MayBeVerified, verified_with_nests}
use Rattle.ftl_nest_check.specs.check.NestFault.{FaultlessIsNestOrdered, first_nest_fault, later_nest_fault}
use Rattle.ftl_nest_check.specs.places.NestPlaced.{verdict_on, without_twice}
use Rattle.ftl_nest_check.specs.stages.Nested.{AreNestsKept, nests_of}
use Rattle.ftl_nest_check.specs.declared.stages.types.NestingSchedule.{NestingSchedule as Schedule}

-- ---- where no fault is found

-- the schedule is ordered
nest_ordered : (g : AttributeGrammar) (s : NestingSchedule) → IsLawful g → AreNestsKept g s
    → first_twice [] (entries (outer_schedule s)) ≡ None → later_nest_fault g s ≡ None → IsNestOrdered g s
nest_ordered g s law kept twice later =
    let both = neither (first_missing g (entries (outer_schedule s))) (first_refused g (nest_placing_of s)) later in
    record {
      once = stands_once g (outer_schedule s) twice both.first;
      sides = kept.sides;
      pairs = pairs_ordered g (nest_placing_of s) law both.later;
    }

option_or_none : {X : Type 0} (x y : Option X) → x ≡ None → y ≡ None → option_or x y ≡ None
option_or_none x y e f = ap (λ o. option_or o y) e ∙ f

pub faultless : FaultlessIsNestOrdered
faultless g s law computed kept = (
  (λ e. let both = neither (first_twice [] (entries (outer_schedule s))) (later_nest_fault g s) e in
      nest_ordered g s law kept both.first both.later),
  (λ ordered.
      option_or_none (first_twice [] (entries (outer_schedule s))) (later_nest_fault g s)
      (none_is_twice g (outer_schedule s) computed ordered.once)
      (option_or_none (first_missing g (entries (outer_schedule s))) (first_refused g (nest_placing_of s))
      (none_is_missing g (outer_schedule s) ordered.once) (none_refused g (nest_placing_of s) law ordered.pairs))),
)

-- ---- the first fault is never want of memory

module _ (g : AttributeGrammar) where
  missing_never : (listed : List ℕ) → first_missing g listed ≢ Some OutOfMemory
  missing_never listed =
      along_never OutOfMemory (missing_fault g listed) (range_with_len 0 g.attribute_count)
      (λ a.
      if_never OutOfMemory (not (is_input (g.sort a)) && not (is_listed listed a)) (Some (Missing a)) None (λ e. cc)
      (λ e. cc))

  refused_never : (at : NestPlacing) → first_refused g at ≢ Some OutOfMemory
  refused_never at =
      along_never OutOfMemory (refused_reads g at) (enumerate_from 0 g.rules)
      (λ r.
      along_never OutOfMemory (λ d. fault_by r.0 (refused_writer g at r.1 d)) (rule_reads g r.1)
      (λ d. by_never r.0 (refused_writer g at r.1 d)))

  pub nest_fault_never : (s : NestingSchedule) → first_nest_fault g s ≢ Some OutOfMemory
  nest_fault_never s =
      or_never OutOfMemory (first_twice [] (entries (outer_schedule s))) (later_nest_fault g s)
      (twice_never [] (entries (outer_schedule s)))
      (or_never OutOfMemory (first_missing g (entries (outer_schedule s))) (first_refused g (nest_placing_of s))
      (missing_never (entries (outer_schedule s))) (refused_never (nest_placing_of s)))

-- ---- the schedule that was looked at

record IsClear (o : Option VerifyFault) (s p : Schedule) : Type 0 where
  clear : o ≡ None
  same : s ≡ p

abbrev value_or : Schedule → Result Schedule VerifyFault → Schedule
value_or s (Ok x) = x
value_or s (Err e) = s

from_ok : (o : Option VerifyFault) (s p : Schedule) → verdict_on o s ≡ Ok p → IsClear o s p
from_ok None s p e = record { clear = refl; same = ap (value_or s) e }
from_ok (Some x) s p e = cc

module _ (g : AttributeGrammar) (s p : Schedule) (placed : without_twice s ≡ Ok p) where
  twice_none : first_twice [] (entries (outer_schedule (nests_of s))) ≡ None
  twice_none = (from_ok (first_twice [] (entries (outer_schedule (nests_of s)))) s p placed).clear

  pub same_schedule : s ≡ p
  same_schedule = (from_ok (first_twice [] (entries (outer_schedule (nests_of s)))) s p placed).same

  first_is : first_nest_fault g (nests_of s) ≡ later_nest_fault g (nests_of p)
  first_is =
      ap (λ o. option_or o (later_nest_fault g (nests_of s))) twice_none
      ∙ ap (λ (x : Schedule). later_nest_fault g (nests_of x)) same_schedule

  pub refused : (fault : VerifyFault) → later_nest_fault g (nests_of p) ≡ Some fault
      → verified_with_nests g s ≡ Err fault
  refused fault e = ap (λ o. verdict_on o s) (first_is ∙ e)

  pub passes : later_nest_fault g (nests_of p) ≡ None → verified_with_nests g s ≡ Ok p
  passes e = ap (λ o. verdict_on o s) (first_is ∙ e) ∙ ap Ok same_schedule

  pub is_ordered : IsLawful g → AreNestsKept g (nests_of s) → later_nest_fault g (nests_of p) ≡ None
      → IsNestOrdered g (nests_of p)
  is_ordered law kept e =
      nest_ordered g (nests_of p) law (subst (λ (x : Schedule). AreNestsKept g (nests_of x)) same_schedule kept)
      (subst (λ (x : Schedule). first_twice [] (entries (outer_schedule (nests_of x))) ≡ None) same_schedule twice_none) e

-- what was asked of the schedule that was looked at holds of the accepted one
pub is_nest_accepted : (c : CheckedGrammar) (s p : Schedule) → without_twice s ≡ Ok p
    → MayBeVerified (meant c) (nests_of s) → IsLawful (meant c) → later_nest_fault (meant c) (nests_of p) ≡ None
    → IsNestAccepted c p
is_nest_accepted c s p placed may law none =
    record {
      may = subst (λ (x : Schedule). MayBeVerified (meant c) (nests_of x)) (same_schedule (meant c) s p placed) may;
      ordered = is_ordered (meant c) s p placed law may.kept none;
    }

-- an accepted schedule has no attribute with two entries
pub once_placed : (c : CheckedGrammar) (s : Schedule) → IsNestAccepted c s → without_twice s ≡ Ok s
once_placed c s accepted =
    ap (λ o. verdict_on o s)
    (none_is_twice (meant c) (outer_schedule (nests_of s)) accepted.may.computed accepted.ordered.once)
