-- The steps with the early ones first compute the order with the early ones first.
use Rattle.std.proofs.Common.{◌≡◌, Bool, true, false, not, if◌then◌else◌, refl, ◌∙◌, ap, ap₂, ⊎_elim, List, [], ◌∷◌}
use Rattle.std.proofs.Common.{◌++◌, filter, map, Contains}
use Rattle.std.proofs.lemmas.List.{map-append}
use Rattle.std.proofs.lemmas.List.Elements.{Contains-append_cases}
use Rattle.ftl_model.proofs.lists.Elements.{in_filter}
use Rattle.ftl_model.specs.layout.AttributeGrammar.{AttributeGrammar}
use Rattle.ftl_model.specs.layout.Solves.{Instance}
use Rattle.ftl_model.specs.layout.Tree.{Forest}
use Rattle.ftl_order.specs.declared.steps.step.Step.{Step}
use Rattle.ftl_order.specs.orders.Schedule.{Placing}
use Rattle.ftl_order.specs.steps.Steps.{target_of}
use Rattle.ftl_cursors.specs.item_cursor.ItemSteps.{AreStepsOf}
use Rattle.ftl_example.specs.declared.examples.early_steps.Half.TheVariants as half
use Rattle.ftl_example.specs.examples.EarlySteps.{early_steps, is_in_half}
use Rattle.ftl_example.specs.orders.EarlyVisits.{is_early}
use Rattle.ftl_example.specs.orders.PlainOrder.{parted}

pub map-filter : {X Y : Type 0} (f : X → Y) (p : Y → Bool) (xs : List X)
    → map f (filter (λ x. p (f x)) xs) ≡ filter p (map f xs)
map-filter f p [] = refl
map-filter f p (x ∷ xs) =
    elim (p (f x)) as
    (λ b. map f (if b then x ∷ filter (λ y. p (f y)) xs else filter (λ y. p (f y)) xs)
    ≡ (if b then f x ∷ filter p (map f xs) else filter p (map f xs))) [
      | true ↦ ap (λ ys. f x ∷ ys) (map-filter f p xs)
      | false ↦ map-filter f p xs
    ]

module _ (g : AttributeGrammar) (at : Placing) (t : Forest) (r : Step) where
  abbrev early : Instance → Bool
  early i = is_early g at t (target_of g t r) i

  early_targets : (steps : List Step) → map (target_of g t) (early_steps g at t r steps)
      ≡ parted early (map (target_of g t) steps)
  early_targets steps =
      map-append (target_of g t) (filter (is_in_half g at t r half.Early) steps)
      (filter (is_in_half g at t r half.Late) steps)
      ∙ ap₂ (λ xs ys. xs ++ ys) (map-filter (target_of g t) early steps)
      (map-filter (target_of g t) (λ i. not (early i)) steps)

  in_early : (steps : List Step) (x : Step) → Contains (early_steps g at t r steps) x → Contains steps x
  in_early steps x h =
      ⊎_elim (λ front. (in_filter (is_in_half g at t r half.Early) steps x front).0)
      (λ back. (in_filter (is_in_half g at t r half.Late) steps x back).0)
      (Contains-append_cases (filter (is_in_half g at t r half.Early) steps)
      (filter (is_in_half g at t r half.Late) steps) x h)

  pub early_are : (order : List Instance) (steps : List Step) → AreStepsOf g t order steps
      → AreStepsOf g t (parted early order) (early_steps g at t r steps)
  early_are order steps are =
      record {
        steps_are = λ x h. are.steps_are x (in_early steps x h);
        targets = early_targets steps ∙ ap (parted early) are.targets;
      }
