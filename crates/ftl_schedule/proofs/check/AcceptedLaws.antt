-- What follows of a schedule without a fault.
use Rattle.std.proofs.Common.{◌≡◌, [], None, Some, Option, Result, Ok, Err, refl, ap, subst, ◌∙◌}
use Rattle.std.specs.Option.{option_or}
use Rattle.ftl_model.proofs.lists.FirstAlong.{neither}
use Rattle.ftl_order.specs.orders.Lawful.{IsLawful}
use Rattle.ftl_order.specs.orders.OrderLaws.{LegalOrderExists, OneListSolves, OneTableSolves, WritersStandBefore}
use Rattle.ftl_order.specs.orders.Ordered.{IsOrdered}
use Rattle.ftl_order.proofs.orders.Scheduled.{one_list_under, one_table_under, order_under, writer_before_under}
use Rattle.ftl_meaning.specs.faults.Checked.{CheckedGrammar}
use Rattle.ftl_meaning.specs.faults.FirstFault as grammar
use Rattle.ftl_meaning.specs.faults.Kinds.{HasKinds}
use Rattle.ftl_meaning.proofs.lawful.Lawfulness.{faultless_lawful}
use Rattle.ftl_deps.specs.reads.Meant.{meant}
use Rattle.ftl_order.specs.orders.Schedule as order
use Rattle.ftl_order.specs.orders.Schedule.{entries, placing_of}
use Rattle.ftl_model.specs.layout.AttributeGrammar.{AttributeGrammar}
use Rattle.ftl_order.specs.faults.FaultLaws.{AreComputed}
use Rattle.ftl_schedule.specs.check.AcceptedSchedule.{IsAccepted}
use Rattle.ftl_schedule.specs.stages.PassLimits.{IsWithinPassLimits}
use Rattle.ftl_schedule.specs.stages.Stages.{stages_of}
use Rattle.ftl_schedule.specs.declared.stages.types.Schedule.{Schedule}
use Rattle.ftl_schedule.specs.places.Placed.{verdict, without_twice}
use Rattle.ftl_order.specs.faults.FirstFault.{first_fault, first_missing, first_twice, first_unordered}
use Rattle.ftl_order.specs.declared.faults.fault.VerifyFault.{VerifyFault}
use Rattle.ftl_order.proofs.faults.Entries.{stands_once}
use Rattle.ftl_order.proofs.faults.Pairs.{pairs_ordered}
use Rattle.ftl_schedule.specs.check.Accepted.{OnEachTree, later_fault, verified_as}

-- the schedule is the one that was looked at, and has no fault
pub record IsClear (o : Option VerifyFault) (s p : Schedule) : Type 0 where
  clear : o ≡ None
  same : s ≡ p

-- the value, where there is one
abbrev pub value_or : Schedule → Result Schedule VerifyFault → Schedule
value_or s (Ok x) = x
value_or s (Err e) = s

pub from_ok : (o : Option VerifyFault) (s p : Schedule) → verdict o s ≡ Ok p → IsClear o s p
from_ok None s p e = record { clear = refl; same = ap (value_or s) e }
from_ok (Some x) s p e = cc

module _ (g : AttributeGrammar) (s p : Schedule) (placed : without_twice s ≡ Ok p) where
  first_twice_none : first_twice [] (entries (stages_of s)) ≡ None
  first_twice_none = (from_ok (first_twice [] (entries (stages_of s))) s p placed).clear

  pub same_schedule : s ≡ p
  same_schedule = (from_ok (first_twice [] (entries (stages_of s))) s p placed).same

  first_fault_is : first_fault g (stages_of s) ≡ later_fault g (stages_of s)
  first_fault_is = ap (λ o. option_or o (later_fault g (stages_of s))) first_twice_none

  later_is : later_fault g (stages_of s) ≡ later_fault g (stages_of p)
  later_is = ap (λ (x : Schedule). later_fault g (stages_of x)) same_schedule

  pub refused : (fault : VerifyFault) → later_fault g (stages_of p) ≡ Some fault → verified_as g s ≡ Err fault
  refused fault e = ap (λ o. verdict o s) (first_fault_is ∙ later_is ∙ e)

  pub passes : later_fault g (stages_of p) ≡ None → verified_as g s ≡ Ok p
  passes e = ap (λ o. verdict o s) (first_fault_is ∙ later_is ∙ e) ∙ ap Ok same_schedule

  pub is_ordered : IsLawful g → later_fault g (stages_of p) ≡ None → IsOrdered g (stages_of p)
  is_ordered lawful e =
      let both = neither (first_missing g (entries (stages_of p))) (first_unordered g (placing_of (stages_of p))) e in
      record {
        once =
            stands_once g (stages_of p)
            (subst (λ (x : Schedule). first_twice [] (entries (stages_of x)) ≡ None) same_schedule first_twice_none) both.first;
        pairs = pairs_ordered g (placing_of (stages_of p)) lawful both.later;
      }

-- what was asked of the schedule that was looked at holds of the accepted one
pub is_accepted : (c : CheckedGrammar) (s p : Schedule) → without_twice s ≡ Ok p → AreComputed (meant c) (stages_of s)
    → IsWithinPassLimits (stages_of s) → IsLawful (meant c) → later_fault (meant c) (stages_of p) ≡ None → IsAccepted c p
is_accepted c s p placed computed limits law none =
    let same = same_schedule (meant c) s p placed in
    record {
      computed = subst (λ (x : Schedule). AreComputed (meant c) (stages_of x)) same computed;
      limits = subst (λ (x : Schedule). IsWithinPassLimits (stages_of x)) same limits;
      ordered = is_ordered (meant c) s p placed law none;
    }

pub lawful_of : (c : CheckedGrammar) → grammar.first_fault c.grammar ≡ None → HasKinds c.grammar → IsLawful (meant c)
lawful_of c none kinds = faultless_lawful c.grammar c.width (record { faults = none; kinds = kinds })

module _ (c : CheckedGrammar) (none : grammar.first_fault c.grammar ≡ None) (kinds : HasKinds c.grammar) (s : order.Schedule)
    (ordered : IsOrdered (meant c) s) where
  abbrev law : IsLawful (meant c)
  law = lawful_of c none kinds

  pub accepted_one_table : OnEachTree (meant c) s OneTableSolves
  accepted_one_table t fits = one_table_under (meant c) s t law ordered.pairs fits

  pub accepted_one_list : OnEachTree (meant c) s OneListSolves
  accepted_one_list t fits = one_list_under (meant c) s t law ordered.pairs fits

  pub accepted_legal_order : OnEachTree (meant c) s LegalOrderExists
  accepted_legal_order t fits = order_under (meant c) s t law ordered.pairs fits

  pub accepted_writers_before : OnEachTree (meant c) s WritersStandBefore
  accepted_writers_before t fits = writer_before_under (meant c) s t law ordered.pairs fits
