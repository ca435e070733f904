-- Where the steps that show a pair stand in an order.
use Rattle.std.proofs.Common.{◌≡◌, ℕ, ◌<◌, ◌≤◌, sym, ◌∙◌, ap, arith, List, get_or, length}
use Rattle.std.proofs.lemmas.List.{get_or-map, length-map}
use Rattle.ftl_model.specs.lists.Lists.{AreDistinct, StandsBefore}
use Rattle.ftl_model.specs.layout.AttributeGrammar.{AttributeGrammar}
use Rattle.ftl_model.specs.layout.Solves.{Instance}
use Rattle.ftl_model.specs.layout.Tree.{Forest}
use Rattle.ftl_items.proofs.stage_items.Fewer.{one_place}
use Rattle.ftl_order.specs.declared.steps.step.Step.{Step}
use Rattle.ftl_order.specs.steps.Steps.{target_of}
use Rattle.ftl_cursors.specs.item_cursor.ItemSteps.{AreStepsOf, no_step}
use Rattle.ftl_example.specs.examples.ShownSteps.{step_in}

-- an entry does not stand before one at a lower place
not_before : (order : List Instance) → AreDistinct order → (r w : Instance) (i j : ℕ) → i ≤ j → j < length order
    → ((d : Instance) → get_or order i d ≡ r) → ((d : Instance) → get_or order j d ≡ w)
    → StandsBefore order w r → ⊥
not_before order once r w i j low below at_i at_j (m, n, less, within, is_w, is_r) =
    let here : n ≡ i = one_place order n i r once within (omega (arith, low, below)) (is_r r ∙ sym (at_i r)) in
    let there : m ≡ j = one_place order m j r once (omega (arith, less, within)) below (is_w r ∙ sym (at_j r)) in
    omega (arith, here, there, less, low)

module _ (g : AttributeGrammar) (t : Forest) (order : List Instance) (steps : List Step) (are : AreStepsOf g t order steps) where
  pub target_at : (i : ℕ) → i < length steps → (d : Instance) → get_or order i d ≡ target_of g t (step_in steps i)
  target_at i below d =
      ap (λ xs. get_or xs i d) (sym are.targets) ∙ get_or-map (target_of g t) steps i no_step d below

  -- where the reader's step is no later than the writer's, the order does not have the writer first
  pub reader_no_later : AreDistinct order → (i j : ℕ) → i ≤ j → j < length steps
      → StandsBefore order (target_of g t (step_in steps j)) (target_of g t (step_in steps i)) → ⊥
  reader_no_later once i j low below =
      let long = ap length (sym are.targets) ∙ length-map steps (target_of g t) in
      not_before order once (target_of g t (step_in steps i)) (target_of g t (step_in steps j)) i j low
      (omega (arith, long, below)) (target_at i (omega (arith, low, below))) (target_at j below)
