-- The steps with the early ones first compute the order with the early ones first, where passes have nests.
use Rattle.std.proofs.Common.{◌≡◌, Bool, not, ◌∙◌, ap, ap₂, ⊎_elim, List}
use Rattle.std.proofs.Common.{◌++◌, filter, map, Contains}
use Rattle.std.proofs.lemmas.List.{map-append}
use Rattle.std.proofs.lemmas.List.Elements.{Contains-append_cases}
use Rattle.ftl_model.proofs.lists.Elements.{in_filter}
use Rattle.ftl_model.specs.layout.AttributeGrammar.{AttributeGrammar}
use Rattle.ftl_model.specs.layout.Solves.{Instance}
use Rattle.ftl_model.specs.layout.Tree.{Forest}
use Rattle.ftl_order.specs.declared.steps.step.Step.{Step}
use Rattle.ftl_nests.specs.Nests.{NestPlacing}
use Rattle.ftl_order.specs.steps.Steps.{target_of}
use Rattle.ftl_cursors.specs.item_cursor.ItemSteps.{AreStepsOf}
use Rattle.ftl_example.specs.declared.examples.early_steps.Half.TheVariants as half
use Rattle.ftl_example.proofs.examples.EarlySteps.{map-filter}
use Rattle.ftl_example.specs.nests.examples.EarlySteps.{early_steps, is_in_half}
use Rattle.ftl_example.specs.nests.orders.EarlyWithNests.{is_early_with_nests}
use Rattle.ftl_example.specs.orders.PlainOrder.{parted}

module _ (g : AttributeGrammar) (at : NestPlacing) (t : Forest) (r : Step) where
  abbrev early : Instance → Bool
  early i = is_early_with_nests g at t (target_of g t r) i

  early_targets : (steps : List Step) → map (target_of g t) (early_steps g at t r steps)
      ≡ parted early (map (target_of g t) steps)
  early_targets steps =
      map-append (target_of g t) (filter (is_in_half g at t r half.Early) steps)
      (filter (is_in_half g at t r half.Late) steps)
      ∙ ap₂ (λ xs ys. xs ++ ys) (map-filter (target_of g t) early steps)
      (map-filter (target_of g t) (λ i. not (early i)) steps)

  in_early : (steps : List Step) (x : Step) → Contains (early_steps g at t r steps) x → Contains steps x
  in_early steps x h =
      ⊎_elim (λ front. (in_filter (is_in_half g at t r half.Early) steps x front).0)
      (λ back. (in_filter (is_in_half g at t r half.Late) steps x back).0)
      (Contains-append_cases (filter (is_in_half g at t r half.Early) steps)
      (filter (is_in_half g at t r half.Late) steps) x h)

  pub early_are : (order : List Instance) (steps : List Step) → AreStepsOf g t order steps
      → AreStepsOf g t (parted early order) (early_steps g at t r steps)
  early_are order steps are =
      record {
        steps_are = λ x h. are.steps_are x (in_early steps x h);
        targets = early_targets steps ∙ ap (parted early) are.targets;
      }
