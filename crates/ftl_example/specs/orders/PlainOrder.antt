-- The plain order of the steps of a tree: stage by stage, pass by pass, the visits of a topdown pass in preorder and those
-- of a bottomup pass in reverse preorder; and the same order with some steps brought forward.
use Rattle.std.specs.Prelude.{◌≡◌, ◌⊎◌, ℕ, Bool, true, false, not, List, ◌++◌, filter, flat_map, length, reverse}
use Rattle.std.specs.List.{range_with_len}
use Rattle.ftl_model.specs.lists.Lists.{StandsBefore}
use Rattle.ftl_model.specs.layout.AttributeGrammar.{AttributeGrammar}
use Rattle.ftl_model.specs.layout.Path.{preorder}
use Rattle.ftl_model.specs.layout.Solves.{Instance}
use Rattle.ftl_model.specs.layout.Tree.{Forest}
use Rattle.ftl_model.specs.layout.TreeOf.{IsTreeOf}
use Rattle.ftl_order.specs.orders.Lawful.{IsLawful}
use Rattle.ftl_order.specs.orders.LegalOrder.{IsLegalOrder, IsStep, MustPrecede}
use Rattle.ftl_order.specs.orders.Schedule.{EachStandsOnce, PassKind, Schedule, bottomup, inorder, pass_at, placing_of, topdown}
use Rattle.ftl_order.specs.orders.Sequence.{sequence}
use Rattle.ftl_items.specs.stage_items.Items.{pass_place, passes_of}
use Rattle.ftl_items.specs.stage_items.Visits.{visit}

-- the steps of the pass of a number in a stage, where it is of this kind and has this list
abbrev pub steps_by_kind : AttributeGrammar → Schedule → Forest → (stage pass : ℕ) → PassKind → List ℕ → List Instance
steps_by_kind g s t stage m topdown attributes = flat_map (visit g t attributes) (preorder t)
steps_by_kind g s t stage m bottomup attributes = flat_map (visit g t attributes) (reverse (preorder t))
steps_by_kind g s t stage m inorder attributes = sequence g (placing_of s) (pass_place stage m) t

-- the steps of a pass
abbrev pub pass_steps : AttributeGrammar → Schedule → Forest → (stage pass : ℕ) → List Instance
pass_steps g s t stage m = steps_by_kind g s t stage m (pass_at s stage m).kind (pass_at s stage m).attributes

-- those of a stage
abbrev pub stage_steps : AttributeGrammar → Schedule → Forest → (stage : ℕ) → List Instance
stage_steps g s t stage = flat_map (pass_steps g s t stage) (range_with_len 0 (length (passes_of s stage)))

-- and all
abbrev pub plain_order : AttributeGrammar → Schedule → Forest → List Instance
plain_order g s t = flat_map (stage_steps g s t) (range_with_len 0 (length s))

-- of a schedule that has each computed attribute once, whether it is ordered or not
abbrev pub PlainOrderIsLegal : Type 0
PlainOrderIsLegal =
    (g : AttributeGrammar) (s : Schedule) (t : Forest) → IsLawful g → EachStandsOnce g s → IsTreeOf g t
    → IsLegalOrder g t s (plain_order g s t)

-- those that pass a test, and then the others, each in their order
abbrev pub parted : (Instance → Bool) → List Instance → List Instance
parted test order = filter test order ++ filter (λ i. not (test i)) order

-- the test tells a step r and what must come before it
abbrev pub TellsEarly : (Instance → Instance → Type 0) → Instance → (Instance → Bool) → Type 0
TellsEarly First r test =
    ((i : Instance) → test i ≡ true → (i ≡ r) ⊎ First i r) × ((i : Instance) → (i ≡ r) ⊎ First i r → test i ≡ true)

-- a legal order, parted so, is legal, and has r before each step that need not come before it
abbrev pub PartingKeepsLegal : Type 0
PartingKeepsLegal =
    (g : AttributeGrammar) (s : Schedule) (t : Forest) (order : List Instance) → IsLegalOrder g t s order
    → (r : Instance) (test : Instance → Bool) → TellsEarly (MustPrecede g t s) r test
    → IsLegalOrder g t s (parted test order)
    × ((w : Instance) → (MustPrecede g t s w r → ⊥) → StandsBefore (parted test order) w r → ⊥)

-- the test holds of each step that must come before one of which it holds
abbrev pub IsClosed : AttributeGrammar → Forest → (Instance → Instance → Type 0) → (Instance → Bool) → Type 0
IsClosed g t First test =
    (i j : Instance) → IsStep g t i → IsStep g t j → First i j → test j ≡ true → test i ≡ true

-- parted by such a test a legal order is legal; a step of which the test holds stands before those of which it doesn't, and
-- before those of which it holds that it stood before
abbrev pub ClosedPartingKeepsLegal : Type 0
ClosedPartingKeepsLegal =
    (g : AttributeGrammar) (s : Schedule) (t : Forest) (order : List Instance) → IsLegalOrder g t s order
    → (test : Instance → Bool) → IsClosed g t (MustPrecede g t s) test
    → IsLegalOrder g t s (parted test order)
    × ((r w : Instance) → test r ≡ true → test w ≡ false → StandsBefore (parted test order) w r → ⊥)
    × ((r w : Instance) → test r ≡ true → test w ≡ true → StandsBefore order r w
    → StandsBefore (parted test order) w r → ⊥)
