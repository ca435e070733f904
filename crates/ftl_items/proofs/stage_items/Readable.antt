-- What a step of an item reads is given, of an earlier step of the item, or of an item that hands on to it.
use Rattle.std.proofs.Common.{◌⊎◌, ℕ, inl, inr, ⊎_elim, length}
use Rattle.ftl_model.specs.lists.Lists.{StandsBefore}
use Rattle.ftl_model.specs.layout.AttributeGrammar.{AttributeGrammar}
use Rattle.ftl_model.specs.layout.Solves.{Instance}
use Rattle.ftl_model.specs.layout.Tree.{Forest}
use Rattle.ftl_model.specs.layout.TreeOf.{IsTreeOf}
use Rattle.ftl_order.specs.orders.Lawful.{IsLawful}
use Rattle.ftl_order.specs.orders.Ordered.{IsOrdered}
use Rattle.ftl_order.specs.orders.Reads.{Reads}
use Rattle.ftl_order.specs.orders.Schedule.{Schedule, placing_of}
use Rattle.ftl_order.proofs.orders.Kids.{root_there}
use Rattle.ftl_items.specs.stage_items.Items.{Item, form_of, passes_of, steps_of_item}
use Rattle.ftl_items.specs.stage_items.ReadLaws.{IsGivenIn, IsHandedTo}
use Rattle.ftl_items.specs.stage_items.StageWork.{kind_of}
use Rattle.ftl_items.specs.stage_items.StepLaws.{ItemHasStep}
use Rattle.ftl_items.proofs.stage_items.FormSteps.{form_readable}
use Rattle.ftl_items.proofs.stage_items.CellKinds.{given_kind_of}
use Rattle.ftl_items.proofs.stage_items.StageForms.{place, stage_forms}

pub readable : (g : AttributeGrammar) (s : Schedule) (t : Forest) → IsLawful g → IsOrdered g s → IsTreeOf g t
    → (grain stage : ℕ) (x : Item) (i j : Instance) → ItemHasStep g s t grain stage x i → Reads g t i j
    → IsGivenIn g s stage j
    ⊎ (StandsBefore (steps_of_item g s stage t grain x) j i ⊎ IsHandedTo g s t grain stage x j)
readable g s t law ordered fits grain stage x i j h reads =
    ⊎_elim
    (λ given. inl (given_kind_of (g.sort j.attribute) (placing_of s j.attribute).stage stage given))
    (λ near. inr near)
    (form_readable g t (root_there g t fits) (length (passes_of s stage)) (form_of g s stage t grain)
    (kind_of g s stage) (place g) (stage_forms g s t law ordered fits grain stage) x i j h reads)
