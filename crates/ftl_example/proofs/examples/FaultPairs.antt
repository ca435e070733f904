-- What is known of the pair that is found for a schedule's first fault.
use Rattle.std.proofs.Common.{◌≡◌, ℕ, sym, subst, Option, Some}
use Rattle.std.proofs.lemmas.Option.{same_Some}
use Rattle.ftl_example.specs.declared.pairs.refused_pair.RefusedPair.{RefusedPair}
use Rattle.ftl_example.specs.examples.Numbered.{IsFaultPair}
use Rattle.ftl_example.specs.pairs.FirstPair.{IsPairOf}
use Rattle.ftl_example.specs.pairs.PairMeant.{pair_meant}
use Rattle.ftl_example.specs.sizes.PlaceTable.{IsKnownPair}
use Rattle.ftl_model.specs.layout.AttributeGrammar.{AttributeGrammar}
use Rattle.ftl_order.proofs.faults.Entries.{stands_once}
use Rattle.ftl_order.specs.declared.faults.fault.VerifyFault.TheVariants.{Unordered}
use Rattle.ftl_order.specs.faults.FirstFault.{first_fault, first_unordered}
use Rattle.ftl_order.specs.orders.Ordered.{IsOrderedPair}
use Rattle.ftl_order.specs.orders.Pairs.{IsPair}
use Rattle.ftl_order.specs.orders.Schedule.{EachStandsOnce, Schedule, placing_of}
use Rattle.ftl_schedule.specs.declared.stages.types.Schedule as code
use Rattle.ftl_schedule.specs.stages.Stages.{stages_of}
use Rattle.ftl_example.proofs.pairs.PairFaults.{is_unordered}

-- an answer that holds the pair of the fault with these rules
abbrev pub HoldsPair : AttributeGrammar → Schedule → (reader writer : ℕ) → Option RefusedPair → Type 0
HoldsPair g s r w o =
    (p : RefusedPair) × (o ≡ Some p) × IsKnownPair g p × IsPairOf g (placing_of s) r w (pair_meant p)

pub record IsFound (g : AttributeGrammar) (s : Schedule) (p : RefusedPair) : Type 0 where
  pub once : EachStandsOnce g s
  pub known : IsKnownPair g p
  pub pair : IsPair g (pair_meant p)
  pub unordered : IsOrderedPair g (placing_of s) (pair_meant p) → ⊥
  pub fault : IsFaultPair g s (pair_meant p)

pub found_is : (g : AttributeGrammar) (s : Schedule) (r w : ℕ) → first_fault g s ≡ Some (Unordered r w)
    → (p : RefusedPair) → HoldsPair g s r w (Some p) → IsFound g s p
found_is g s r w e p (q, same, known, is) =
    let u = is_unordered g s r w e in
    let eq : q ≡ p = sym (same_Some p q same) in
    subst (IsFound g s) eq
    (record {
      once = stands_once g s u.twice u.missing;
      known = known;
      pair = is.is;
      unordered = is.unordered;
      fault = (r, w, e, is);
    })

-- that of what was looked at, a copy of the schedule
pub found_for : (g : AttributeGrammar) (schedule placed : code.Schedule) → placed ≡ schedule
    → (r w : ℕ) → first_fault g (stages_of schedule) ≡ Some (Unordered r w)
    → (o : Option RefusedPair)
    → ((m n : ℕ) → first_unordered g (placing_of (stages_of placed)) ≡ Some (Unordered m n)
    → HoldsPair g (stages_of placed) m n o)
    → (p : RefusedPair) → o ≡ Some p → IsFound g (stages_of placed) p
found_for g schedule placed same r w e o holds p is =
    let here : first_fault g (stages_of placed) ≡ Some (Unordered r w) =
    subst (λ (k : code.Schedule). first_fault g (stages_of k) ≡ Some (Unordered r w)) (sym same) e in
    found_is g (stages_of placed) r w here p
    (subst (λ (x : Option RefusedPair). HoldsPair g (stages_of placed) r w x) is
    (holds r w (is_unordered g (stages_of placed) r w here).unordered))

-- an answer that holds it is not none
pub holds_some : (g : AttributeGrammar) (schedule placed : code.Schedule) → placed ≡ schedule
    → (r w : ℕ) → first_fault g (stages_of schedule) ≡ Some (Unordered r w)
    → (o : Option RefusedPair)
    → ((m n : ℕ) → first_unordered g (placing_of (stages_of placed)) ≡ Some (Unordered m n)
    → HoldsPair g (stages_of placed) m n o)
    → (p : RefusedPair) × (o ≡ Some p)
holds_some g schedule placed same r w e o holds =
    let here : first_fault g (stages_of placed) ≡ Some (Unordered r w) =
    subst (λ (k : code.Schedule). first_fault g (stages_of k) ≡ Some (Unordered r w)) (sym same) e in
    let h = holds r w (is_unordered g (stages_of placed) r w here).unordered in
    (h.0, h.1)
