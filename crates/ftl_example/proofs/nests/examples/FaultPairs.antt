-- What is known of the pair that is found for the first fault of a schedule with nests.
use Rattle.std.proofs.Common.{◌≡◌, ℕ, sym, subst, Option, Some}
use Rattle.std.proofs.lemmas.Option.{same_Some}
use Rattle.ftl_example.specs.declared.pairs.refused_pair.RefusedPair.{RefusedPair}
use Rattle.ftl_example.specs.pairs.PairMeant.{pair_meant}
use Rattle.ftl_example.specs.sizes.PlaceTable.{IsKnownPair}
use Rattle.ftl_model.specs.layout.AttributeGrammar.{AttributeGrammar}
use Rattle.ftl_order.proofs.faults.Entries.{stands_once}
use Rattle.ftl_order.specs.declared.faults.fault.VerifyFault.TheVariants.{Unordered}
use Rattle.ftl_order.specs.orders.Pairs.{IsPair}
use Rattle.ftl_order.specs.orders.Schedule.{EachStandsOnce}
use Rattle.ftl_nests.specs.Nests.{NestingSchedule, nest_placing_of, outer_schedule}
use Rattle.ftl_nest_check.specs.check.NestFault.{first_nest_fault}
use Rattle.ftl_regions.specs.pairs.NestReads.{first_refused}
use Rattle.ftl_example.specs.nests.pairs.NestPair.{IsNestFaultPair, IsNestOrderedPair, IsNestPairOf}
use Rattle.ftl_example.proofs.nests.pairs.NestFaultPairs.{is_refused}

-- an answer that holds the pair of the fault with these rules
abbrev pub HoldsPair : AttributeGrammar → NestingSchedule → (reader writer : ℕ) → Option RefusedPair → Type 0
HoldsPair g s r w o =
    (p : RefusedPair) × (o ≡ Some p) × IsKnownPair g p × IsNestPairOf g (nest_placing_of s) r w (pair_meant p)

pub record IsFound (g : AttributeGrammar) (s : NestingSchedule) (p : RefusedPair) : Type 0 where
  pub once : EachStandsOnce g (outer_schedule s)
  pub known : IsKnownPair g p
  pub pair : IsPair g (pair_meant p)
  pub unordered : IsNestOrderedPair g (nest_placing_of s) (pair_meant p) → ⊥
  pub fault : IsNestFaultPair g s (pair_meant p)

found_is : (g : AttributeGrammar) (s : NestingSchedule) (r w : ℕ) → first_nest_fault g s ≡ Some (Unordered r w)
    → (p : RefusedPair) → HoldsPair g s r w (Some p) → IsFound g s p
found_is g s r w e p (q, same, known, is) =
    let u = is_refused g s r w e in
    let eq : q ≡ p = sym (same_Some p q same) in
    subst (IsFound g s) eq
    (record {
      once = stands_once g (outer_schedule s) u.twice u.missing;
      known = known;
      pair = is.is;
      unordered = is.unordered;
      fault = (r, w, e, is);
    })

module _ (g : AttributeGrammar) (s : NestingSchedule) (r w : ℕ) (e : first_nest_fault g s ≡ Some (Unordered r w))
    (o : Option RefusedPair)
    (holds : (m n : ℕ) → first_refused g (nest_placing_of s) ≡ Some (Unordered m n) → HoldsPair g s m n o) where
  pub found_for : (p : RefusedPair) → o ≡ Some p → IsFound g s p
  found_for p is =
      found_is g s r w e p
      (subst (λ (x : Option RefusedPair). HoldsPair g s r w x) is (holds r w (is_refused g s r w e).refused))

  -- an answer that holds it is not none
  pub holds_some : (p : RefusedPair) × (o ≡ Some p)
  holds_some = let h = holds r w (is_refused g s r w e).refused in (h.0, h.1)
