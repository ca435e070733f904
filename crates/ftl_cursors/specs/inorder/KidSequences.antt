-- The sequence at a node by its kids: what is done for each kid is its inherited attributes and its sequence.
use Rattle.std.specs.Prelude.{◌≡◌, ℕ, List, ◌++◌, flat_map}
use Rattle.std.specs.List.{range_with_len}
use Rattle.ftl_model.specs.layout.AttributeGrammar.{AttributeGrammar, inherited, local, synthesized}
use Rattle.ftl_model.specs.layout.Path.{Has, Path, class_at, down, kids_at}
use Rattle.ftl_model.specs.layout.Solves.{Instance}
use Rattle.ftl_model.specs.layout.Tree.{Forest}
use Rattle.ftl_model.specs.layout.TreeOf.{IsTreeOf}
use Rattle.ftl_order.specs.orders.Schedule.{Placing, SchedulePlace}
use Rattle.ftl_order.specs.orders.Sequence.{sequence_at, steps_at}

-- what is done for a kid: its inherited attributes, and then its sequence
abbrev pub kid_sequence : AttributeGrammar → Placing → SchedulePlace → Forest → Path → (child kid : ℕ) → List Instance
kid_sequence g at x t p c k =
    steps_at g at x inherited (class_at t (down c k p)) (down c k p) ++ sequence_at g at x t (down c k p)

-- for the kids in a child, first to last
abbrev pub child_sequence : AttributeGrammar → Placing → SchedulePlace → Forest → Path → (child : ℕ) → List Instance
child_sequence g at x t p c = flat_map (kid_sequence g at x t p c) (range_with_len 0 (kids_at t p c))

-- for all children, in the order of their declaration
abbrev pub children_sequence : AttributeGrammar → Placing → SchedulePlace → Forest → Path → List Instance
children_sequence g at x t p =
    flat_map (child_sequence g at x t p) (range_with_len 0 (g.child_count (class_at t p)))

-- of each node of a tree of a grammar, and each pass
abbrev pub OfNodes : (AttributeGrammar → Placing → SchedulePlace → Forest → Path → Type 0) → Type 0
OfNodes P =
    (g : AttributeGrammar) (at : Placing) (x : SchedulePlace) (t : Forest) → IsTreeOf g t → (p : Path) → Has t p
    → P g at x t p

-- the sequence at the node has its locals, what is done for its kids, and its synthesized attributes
abbrev pub GoesKidByKid : AttributeGrammar → Placing → SchedulePlace → Forest → Path → Type 0
GoesKidByKid g at x t p =
    sequence_at g at x t p
    ≡ steps_at g at x local (class_at t p) p
    ++ (children_sequence g at x t p ++ steps_at g at x synthesized (class_at t p) p)
