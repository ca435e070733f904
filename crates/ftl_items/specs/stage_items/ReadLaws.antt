-- What a step of a stage may read: an input, what an earlier stage computed, what its item computed before, or what an
-- item computes that hands on to it.
use Rattle.std.specs.Prelude.{◌≡◌, ◌⊎◌, ℕ, ◌<◌, true, Contains}
use Rattle.ftl_model.specs.lists.Lists.{StandsBefore}
use Rattle.ftl_model.specs.layout.AttributeGrammar.{AttributeGrammar, input}
use Rattle.ftl_model.specs.layout.Path.{Has, Path}
use Rattle.ftl_model.specs.layout.Solves.{Instance}
use Rattle.ftl_model.specs.layout.Tree.{Forest}
use Rattle.ftl_order.specs.orders.LegalOrder.{KeyFirst, turn_of}
use Rattle.ftl_order.specs.orders.Reads.{Reads}
use Rattle.ftl_order.specs.orders.Schedule.{Schedule, pass_at, placing_of}
use Rattle.ftl_items.specs.stage_items.Items.{Item, is_next, passes_of, steps_of_item}
use Rattle.ftl_items.specs.stage_items.StepLaws.{ItemHasStep}
use Rattle.ftl_items.specs.stage_items.Visits.{visit}

-- in a visit steps stand by key, and those of one rule by kid
abbrev pub VisitsStandByKey : AttributeGrammar → Schedule → Forest → (grain stage : ℕ) → Type 0
VisitsStandByKey g s t grain stage =
    (m : ℕ) (p : Path) (i j : Instance) → Has t p
    → Contains (visit g t (pass_at s stage m).attributes p) i → Contains (visit g t (pass_at s stage m).attributes p) j
    → KeyFirst (placing_of s) (turn_of g i) (turn_of g j)
    → StandsBefore (visit g t (pass_at s stage m).attributes p) i j

-- an input, or of an earlier stage
abbrev pub IsGivenIn : AttributeGrammar → Schedule → (stage : ℕ) → Instance → Type 0
IsGivenIn g s stage j = (g.sort j.attribute ≡ input) ⊎ ((placing_of s j.attribute).stage < stage)

-- a step of an item that hands on to this one
abbrev pub IsHandedTo : AttributeGrammar → Schedule → Forest → (grain stage : ℕ) → Item → Instance → Type 0
IsHandedTo g s t grain stage x j =
    (y : Item) × ItemHasStep g s t grain stage y j × (is_next (passes_of s stage) y x ≡ true)

-- each read of a step is given, of an earlier step of the item, or of a step of an item that hands on to it
abbrev pub ReadsAreReadable : AttributeGrammar → Schedule → Forest → (grain stage : ℕ) → Type 0
ReadsAreReadable g s t grain stage =
    (x : Item) (i j : Instance) → ItemHasStep g s t grain stage x i → Reads g t i j
    → IsGivenIn g s stage j
    ⊎ (StandsBefore (steps_of_item g s stage t grain x) j i ⊎ IsHandedTo g s t grain stage x j)
