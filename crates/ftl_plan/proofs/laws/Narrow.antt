-- A plan without a fault has no step that reads too much.
use Rattle.std.proofs.Common.{◌≡◌, ◌≢◌, ℕ, ◌<◌, ◌≤◌, ◌&&◌, not, Bool, true, false, cond, ltb, ltb-false, refl, sym, ◌∙◌, ap, ap₂, ⊎_elim, eq-eqb, arith, List, [], ◌∷◌, length, Contains, Option, Some, None}
use Rattle.std.specs.List.{find, range_with_len}
use Rattle.std.specs.Option.{option_map}
use Rattle.std.proofs.lemmas.Option.{none-some}
use Rattle.ftl_model.proofs.lists.FirstAlong.{neither, none_along}
use Rattle.ftl_model.proofs.lists.Elements.{filter_has, in_cases, nothing_in, range_has}
use Rattle.ftl_items.specs.stage_items.Limits.{first_wide_step, is_of_stage, read_count, steps_of_stage}
use Rattle.ftl_model.specs.layout.AttributeGrammar.{AttributeGrammar, Sort, inherited, input, is_input, local, synthesized}
use Rattle.ftl_model.specs.layout.Solves.{Instance}
use Rattle.ftl_model.specs.layout.Table.{instances}
use Rattle.ftl_model.specs.layout.Tree.{Forest}
use Rattle.ftl_order.specs.orders.LegalOrder.{IsStep}
use Rattle.ftl_order.specs.orders.Reads.{reads_of}
use Rattle.ftl_order.specs.orders.Schedule.{Schedule, placing_of}
use Rattle.ftl_order.proofs.orders.Instances.{is_listed_instance}
use Rattle.ftl_step_value.specs.limits.faults.PlanFaults.{first_fault, first_of_stages, step_too_wide, too_many_reads}
use Rattle.ftl_step_value.specs.declared.limits.faults.fault.PlanFault.{PlanFault}

none_mapped : {X : Type 0} (f : X → PlanFault) (o : Option X) → option_map f o ≡ None → o ≡ None
none_mapped f None e = refl
none_mapped f (Some x) e = absurd (none-some (f x) (sym e))

none_found : {X : Type 0} (p : X → Bool) (xs : List X) (x : X) → find p xs ≡ None → Contains xs x → p x ≡ false
none_found p [] x e h = absurd (nothing_in x h)
none_found p (y ∷ ys) x e h =
    elim (p y) as (λ b. (p y ≡ b) → cond b (Some y) (find p ys) ≡ None → p x ≡ false) [
      | true ↦ λ here e. absurd (none-some y (sym e))
      | false ↦ λ here e.
          ⊎_elim (λ same. ap p (sym same) ∙ here) (λ later. none_found p ys x e later) (in_cases y x ys h)
    ]
    refl e

computed : (sort : Sort) → sort ≢ input → is_input sort ≡ false
computed input h = absurd (h refl)
computed inherited h = refl
computed synthesized h = refl
computed local h = refl

module _ (g : AttributeGrammar) (s : Schedule) (t : Forest) (none : first_fault g s t ≡ None) where
  not_wide : (k : ℕ) → k < length s → first_wide_step g t s k 1048576 ≡ None
  not_wide k known =
      let both = neither (first_of_stages s (too_many_reads g s t)) (first_of_stages s (step_too_wide g s t)) none in
      none_mapped _ (first_wide_step g t s k 1048576)
      (none_along (step_too_wide g s t) (range_with_len 0 (length s)) both.later k
      (range_has 0 (length s) k (omega arith) (omega (arith, known))))

  in_stage : (i : Instance) → IsStep g t i → is_of_stage g s (placing_of s i.attribute).stage i ≡ true
  in_stage i step =
      ap₂ (λ a b. a && b) (ap not (computed (g.sort i.attribute) step.1))
      (eq-eqb (placing_of s i.attribute).stage (placing_of s i.attribute).stage refl)

  -- a step of a stage that there is
  narrow_in : (i : Instance) → IsStep g t i → (placing_of s i.attribute).stage < length s
      → length (reads_of g t i) ≤ 1048576
  narrow_in i step known =
      let k = (placing_of s i.attribute).stage in
      let there : Contains (steps_of_stage g t s k) i =
      filter_has (is_of_stage g s k) (instances g t) i (is_listed_instance g t i step.0) (in_stage i step) in
      ltb-false 1048576 (read_count g t i)
      (none_found (λ x. ltb 1048576 (read_count g t x)) (steps_of_stage g t s k) i (not_wide k known) there)

  -- and there is no other
  pub narrow : ((i : Instance) → IsStep g t i → (placing_of s i.attribute).stage < length s)
      → (i : Instance) → IsStep g t i → length (reads_of g t i) ≤ 1048576
  narrow stands i step = narrow_in i step (stands i step)
