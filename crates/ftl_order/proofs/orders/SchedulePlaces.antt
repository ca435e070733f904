-- In a schedule with each computed attribute once, an attribute stands in the list of its place, alone at its place.
use Rattle.std.proofs.Common.{◌≡◌, ◌≢◌, ℕ, suc, ◌<◌, true, false, if◌then◌else◌, refl, sym, ◌∙◌, ap₂, ⊎_elim, arith, List, [], ◌∷◌, get_or, flat_map, Contains}
use Rattle.std.proofs.lemmas.List.Elements.{Contains-append_cases}
use Rattle.ftl_model.specs.lists.Lists.{is_listed}
use Rattle.ftl_model.proofs.lists.Elements.{nothing_in}
use Rattle.ftl_model.proofs.lists.Listed.{counted_in, is_there, listed}
use Rattle.ftl_model.proofs.lists.Places.{place_is}
use Rattle.ftl_model.specs.layout.AttributeGrammar.{AttributeGrammar, input}
use Rattle.ftl_order.specs.orders.Schedule.{EachStandsOnce, IsOnePass, Pass, Schedule, empty_pass, entries, has_entry, pass_at, pass_in_stage, pass_of, placing_of, stage_of}

in_stage : (passes : List Pass) (a : ℕ) → Contains (flat_map (λ (pass : Pass). pass.attributes) passes) a
    → has_entry passes a ≡ true
in_stage [] a h = absurd (nothing_in a h)
in_stage (pass ∷ passes) a h =
    elim (is_listed pass.attributes a) as
    (λ b. (is_listed pass.attributes a ≡ b) → (if b then true else has_entry passes a) ≡ true) [
      | true ↦ λ e. refl
      | false ↦ λ e.
          ⊎_elim (λ here. absurd (let f = listed pass.attributes a here in let z : ⊥ = grind arith in z))
          (λ later. in_stage passes a later)
          (Contains-append_cases pass.attributes (flat_map (λ (p : Pass). p.attributes) passes) a h)
    ]
    refl

in_its_pass : (passes : List Pass) (a : ℕ) → has_entry passes a ≡ true
    → Contains (get_or passes (pass_of passes a) empty_pass).attributes a
in_its_pass [] a h = absurd (let z : ⊥ = grind arith in z)
in_its_pass (pass ∷ passes) a h =
    elim (is_listed pass.attributes a) as
    (λ b. (is_listed pass.attributes a ≡ b) → (if b then true else has_entry passes a) ≡ true
    → Contains (get_or (pass ∷ passes) (if b then 0 else suc (pass_of passes a)) empty_pass).attributes a)
    [ true ↦ λ e h. is_there pass.attributes a e | false ↦ λ e h. in_its_pass passes a h ]
    refl h

in_its_list : (s : Schedule) (a : ℕ) → Contains (entries s) a
    → Contains (pass_at s (stage_of s a) (pass_in_stage s a)).attributes a
in_its_list [] a h = absurd (nothing_in a h)
in_its_list (passes ∷ stages) a h =
    elim (has_entry passes a) as
    (λ b. (has_entry passes a ≡ b)
    → Contains
    (get_or (get_or (passes ∷ stages) (if b then 0 else suc (stage_of stages a)) [])
    (pass_of (get_or (passes ∷ stages) (if b then 0 else suc (stage_of stages a)) []) a) empty_pass).attributes
    a) [
      | true ↦ λ e. in_its_pass passes a e
      | false ↦ λ e.
          ⊎_elim (λ here. absurd (let f = in_stage passes a here in let z : ⊥ = grind arith in z))
          (λ later. in_its_list stages a later)
          (Contains-append_cases (flat_map (λ (p : Pass). p.attributes) passes) (entries stages) a h)
    ]
    refl

-- two computed attributes of one pass and one place are one
pub own_keys : (g : AttributeGrammar) (s : Schedule) → EachStandsOnce g s → (a b : ℕ) → a < g.attribute_count
    → b < g.attribute_count
    → g.sort a ≢ input → g.sort b ≢ input → IsOnePass (placing_of s a) (placing_of s b)
    → (placing_of s a).index ≡ (placing_of s b).index → a ≡ b
own_keys g s once a b of_a of_b computed_a computed_b same index =
    let in_a = in_its_list s a (counted_in (entries s) a (let e = once a of_a computed_a in omega (arith, e))) in
    let in_b = in_its_list s b (counted_in (entries s) b (let e = once b of_b computed_b in omega (arith, e))) in
    let one : (pass_at s (stage_of s a) (pass_in_stage s a)).attributes ≡
    (pass_at s (stage_of s b) (pass_in_stage s b)).attributes =
    ap₂ (λ m n. (pass_at s m n).attributes) same.0 same.1 in
    sym (place_is (pass_at s (stage_of s a) (pass_in_stage s a)).attributes a 0 in_a)
    ∙ ap₂ (λ xs n. get_or xs n 0) one index
    ∙ place_is (pass_at s (stage_of s b) (pass_in_stage s b)).attributes b 0 in_b
