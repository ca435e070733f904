-- What the items of a stage have: each of its steps in one item, at one place.
use Rattle.std.specs.Prelude.{◌≡◌, ℕ, Contains}
use Rattle.ftl_model.specs.lists.Lists.{AreDistinct}
use Rattle.ftl_model.specs.layout.AttributeGrammar.{AttributeGrammar}
use Rattle.ftl_model.specs.layout.Solves.{Instance}
use Rattle.ftl_model.specs.layout.Tree.{Forest}
use Rattle.ftl_model.specs.layout.TreeOf.{IsTreeOf}
use Rattle.ftl_order.specs.orders.Lawful.{IsLawful}
use Rattle.ftl_order.specs.orders.LegalOrder.{IsStep}
use Rattle.ftl_order.specs.orders.Ordered.{IsOrdered}
use Rattle.ftl_order.specs.orders.Schedule.{IsOnePass, Schedule, placing_of}
use Rattle.ftl_items.specs.stage_items.Items.{Item, pass_place, steps_of_item}
use Rattle.ftl_items.specs.stage_items.StageWork.{stage_items}

-- of each stage of an ordered schedule, on each tree of a lawful grammar and at each grain
abbrev pub OfStages : (AttributeGrammar → Schedule → Forest → (grain stage : ℕ) → Type 0) → Type 0
OfStages P =
    (g : AttributeGrammar) (s : Schedule) (t : Forest) → IsLawful g → IsOrdered g s → IsTreeOf g t
    → (grain stage : ℕ) → P g s t grain stage

-- the stage has this item
abbrev pub IsItem : AttributeGrammar → Schedule → Forest → (grain stage : ℕ) → Item → Type 0
IsItem g s t grain stage x = Contains (stage_items g s t grain stage) x

-- and the item this step
abbrev pub ItemHasStep : AttributeGrammar → Schedule → Forest → (grain stage : ℕ) → Item → Instance → Type 0
ItemHasStep g s t grain stage x i = IsItem g s t grain stage x × Contains (steps_of_item g s stage t grain x) i

-- the steps of an item are of its pass in this stage
abbrev pub StepsAreOfTheirPass : AttributeGrammar → Schedule → Forest → (grain stage : ℕ) → Type 0
StepsAreOfTheirPass g s t grain stage =
    (x : Item) (i : Instance) → ItemHasStep g s t grain stage x i
    → IsStep g t i × IsOnePass (placing_of s i.attribute) (pass_place stage x.pass)

-- each step of the stage is in exactly one item
abbrev pub EachStepInOneItem : AttributeGrammar → Schedule → Forest → (grain stage : ℕ) → Type 0
EachStepInOneItem g s t grain stage =
    (i : Instance) → IsStep g t i → (placing_of s i.attribute).stage ≡ stage
    → (x : Item) × ItemHasStep g s t grain stage x i
    × ((y : Item) → ItemHasStep g s t grain stage y i → y ≡ x)

-- no item has a step twice
abbrev pub StepsStandOnce : AttributeGrammar → Schedule → Forest → (grain stage : ℕ) → Type 0
StepsStandOnce g s t grain stage =
    (x : Item) → IsItem g s t grain stage x → AreDistinct (steps_of_item g s stage t grain x)

-- and no item stands twice
abbrev pub ItemsStandOnce : AttributeGrammar → Schedule → Forest → (grain stage : ℕ) → Type 0
ItemsStandOnce g s t grain stage = AreDistinct (stage_items g s t grain stage)
