-- The items of a stage of an ordered schedule, and the one that has a step.
use Rattle.std.proofs.Common.{◌≡◌, ◌≢◌, ℕ, refl, length, Contains}
use Rattle.ftl_model.specs.lists.Lists.{AreDistinct}
use Rattle.ftl_model.specs.layout.AttributeGrammar.{AttributeGrammar}
use Rattle.ftl_model.specs.layout.Path.{Path}
use Rattle.ftl_model.specs.layout.Solves.{Instance}
use Rattle.ftl_model.specs.layout.Tree.{Forest}
use Rattle.ftl_model.specs.layout.TreeOf.{IsTreeOf}
use Rattle.ftl_order.specs.orders.Lawful.{IsLawful}
use Rattle.ftl_order.specs.orders.LegalOrder.{IsStep, turn_of}
use Rattle.ftl_order.specs.orders.Ordered.{IsOrdered}
use Rattle.ftl_order.specs.orders.Schedule.{IsOnePass, PassKind, Schedule, inorder, pass_at, placing_of}
use Rattle.ftl_order.proofs.orders.Kids.{root_there}
use Rattle.ftl_items.specs.stage_items.Cut.{nodes_of}
use Rattle.ftl_items.specs.stage_items.Items.{Item, form_of, pass_place, passes_of, steps_of_item}
use Rattle.ftl_items.specs.stage_items.StageWork.{kind_of}
use Rattle.ftl_items.specs.stage_items.StepLaws.{ItemHasStep, IsItem}
use Rattle.ftl_items.proofs.stage_items.FormSteps.{form_step_here, form_step_in_one, form_steps_once}
use Rattle.ftl_items.proofs.stage_items.StageForms.{of_step, place, stage_forms, step_of}

module _ (g : AttributeGrammar) (s : Schedule) (t : Forest) (law : IsLawful g) (ordered : IsOrdered g s)
    (fits : IsTreeOf g t) (grain stage : ℕ) where
  -- a step of an item of the pass of this number, whose first node is p
  pub record StepHere (kind : PassKind) (m : ℕ) (p : Path) (i : Instance) : Type 0 where
    pub step : IsStep g t i
    pub pass : IsOnePass (placing_of s i.attribute) (pass_place stage m)
    pub held : kind ≢ inorder → Contains (nodes_of t grain p) (turn_of g i).visit

  pub step_here : (x : Item) (i : Instance) → ItemHasStep g s t grain stage x i
      → StepHere (pass_at s stage x.pass).kind x.pass x.first i
  step_here x i h =
      let here =
      form_step_here g t (root_there g t fits) (length (passes_of s stage)) (form_of g s stage t grain)
      (kind_of g s stage) (place g) (stage_forms g s t law ordered fits grain stage) x i h in
      let own = step_of g s t law ordered fits grain stage x.pass i here.of_pass in
      record { step = own.step; pass = own.pass; held = here.held }

  -- the item that has a step
  pub step_in_one : (i : Instance) → IsStep g t i → (placing_of s i.attribute).stage ≡ stage
      → (x : Item) × ItemHasStep g s t grain stage x i × ((y : Item) → ItemHasStep g s t grain stage y i → y ≡ x)
  step_in_one i step e =
      form_step_in_one g t (root_there g t fits) (length (passes_of s stage)) (form_of g s stage t grain)
      (kind_of g s stage) (place g) (stage_forms g s t law ordered fits grain stage) (placing_of s i.attribute).pass i
      (of_step g s t law ordered fits grain stage (placing_of s i.attribute).pass i step (e, refl))

  pub steps_once : (x : Item) → IsItem g s t grain stage x → AreDistinct (steps_of_item g s stage t grain x)
  steps_once x h =
      form_steps_once g t (root_there g t fits) (length (passes_of s stage)) (form_of g s stage t grain)
      (kind_of g s stage) (place g) (stage_forms g s t law ordered fits grain stage) x h
