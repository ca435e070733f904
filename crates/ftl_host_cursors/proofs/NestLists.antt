-- What is placed in a pass of a nest is listed there.
use Rattle.std.proofs.Common.{◌≡◌, ℕ, suc, ◌<◌, true, false, if◌then◌else◌, [], ◌∷◌, flat_map, length, refl, arith, Contains}
use Rattle.std.proofs.lemmas.List.Elements.{Contains-append_left, Contains-append_right}
use Rattle.ftl_model.specs.layout.AttributeGrammar.{AttributeGrammar}
use Rattle.ftl_order.specs.orders.Schedule.{Schedule, entries, has_entry, stage_of}
use Rattle.ftl_items.proofs.stage_items.Passes.{entry_there}
use Rattle.ftl_cursors.proofs.inorder.KeyedLists.{OwnsPass}
use Rattle.ftl_host_cursors.specs.HostLaws.{StandsAtMostOnce}

-- what has a stage is listed
stage_listed : (s : Schedule) (a : ℕ) → stage_of s a < length s → Contains (entries s) a
stage_listed [] a h = absurd (let z : ⊥ = omega (arith, h) in z)
stage_listed (passes ∷ stages) a h =
    elim (has_entry passes a) as
    (λ b. (has_entry passes a ≡ b) → (if b then 0 else suc (stage_of stages a)) < suc (length stages)
    → Contains (entries (passes ∷ stages)) a) [
      | true ↦ λ e h.
          Contains-append_left (flat_map (λ pass. pass.attributes) passes) (entries stages) a (entry_there passes a e)
      | false ↦ λ e h.
          Contains-append_right (flat_map (λ pass. pass.attributes) passes) (entries stages) a
          (stage_listed stages a (omega (arith, h)))
    ]
    refl h

pub nest_owns : (g : AttributeGrammar) (s : Schedule) → StandsAtMostOnce g s → (u m : ℕ) → u < length s
    → OwnsPass g s u m
nest_owns g s few u m known = record {
  few = few;
  listed = λ a in_grammar computed one.
      let e = one.0 in
      stage_listed s a (let z : stage_of s a < length s = omega (arith, e, known) in z);
}
