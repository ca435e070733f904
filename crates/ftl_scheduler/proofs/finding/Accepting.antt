-- The automatic schedule is accepted, unless memory runs out.
use Rattle.std.proofs.Common.{◌≡◌, ◌≢◌, Bool, true, false, [], Result, Ok, Err, refl, sym, ◌∙◌, ap}
use Rattle.std.proofs.lemmas.Bool.{true≢false}
use Rattle.ftl_model.specs.layout.AttributeGrammar.{AttributeGrammar}
use Rattle.ftl_order.specs.orders.Lawful.{IsLawful}
use Rattle.ftl_order.specs.orders.Ordered.{IsOrdered}
use Rattle.ftl_order.specs.automatic.Automatic.{IsAutomatic}
use Rattle.ftl_order.proofs.automatic.ChainOrder.{entries_new}
use Rattle.ftl_order.proofs.automatic.Ordered.{automatic_ordered}
use Rattle.ftl_order.specs.faults.FaultLaws.{AreComputed, FaultlessIsOrdered}
use Rattle.ftl_order.specs.declared.faults.fault.VerifyFault.{VerifyFault}
use Rattle.ftl_order.specs.declared.faults.fault.VerifyFault.TheVariants.{Twice, Missing, Unordered, OutOfMemory}
use Rattle.ftl_schedule.specs.stages.Stages.{stages_of}
use Rattle.ftl_schedule.specs.declared.stages.types.Schedule.{Schedule}
use Rattle.ftl_schedule.specs.places.Placed.{verdict}
use Rattle.ftl_schedule.specs.check.Accepted.{verified_as}

-- whether the fault is that no memory was left
abbrev is_memory : VerifyFault → Bool
is_memory (Twice a) = false
is_memory (Missing a) = false
is_memory (Unordered r w) = false
is_memory OutOfMemory = true

abbrev is_ok : Result Schedule VerifyFault → Bool
is_ok (Ok x) = true
is_ok (Err e) = false

-- the value, where there is one
abbrev value_or : Schedule → Result Schedule VerifyFault → Schedule
value_or s (Ok x) = x
value_or s (Err e) = s

module _ (g : AttributeGrammar) (law : IsLawful g) (s : Schedule) (h : IsAutomatic g (stages_of s)) where
  pub entries_computed : AreComputed g (stages_of s)
  entries_computed a there = (entries_new g [] (stages_of s) h.chain).computed a there

  pub is_ordered : IsOrdered g (stages_of s)
  is_ordered = automatic_ordered g (stages_of s) law h

  module _ (faultless : FaultlessIsOrdered) where
    verified : verified_as g s ≡ Ok s
    verified = ap (λ o. verdict o s) ((faultless g (stages_of s) law entries_computed).1 is_ordered)

    pub same_accepted : (a : Schedule) → verified_as g s ≡ Ok a → s ≡ a
    same_accepted a e = ap (value_or s) (sym verified ∙ e)

    no_fault : (fault : VerifyFault) → verified_as g s ≡ Err fault → ⊥
    no_fault fault e = true≢false (sym (ap is_ok verified) ∙ ap is_ok e)

    pub only_memory : (fault : VerifyFault) → (fault ≢ OutOfMemory → verified_as g s ≡ Err fault) → fault ≡ OutOfMemory
    only_memory (Twice a) e = absurd (no_fault (Twice a) (e (λ is. true≢false (sym (ap is_memory is)))))
    only_memory (Missing a) e = absurd (no_fault (Missing a) (e (λ is. true≢false (sym (ap is_memory is)))))
    only_memory (Unordered r w) e = absurd (no_fault (Unordered r w) (e (λ is. true≢false (sym (ap is_memory is)))))
    only_memory OutOfMemory e = refl
