-- What the visits of an inorder pass compute: the instances of the rules that their operations run.
use Rattle.std.specs.Prelude.{◌≡◌, ℕ, List, ◌++◌, flat_map, map}
use Rattle.std.specs.List.{range_with_len}
use Rattle.ftl_model.specs.layout.AttributeGrammar.{AttributeGrammar}
use Rattle.ftl_model.specs.layout.Path.{Has, Path, class_at, down, kids_at}
use Rattle.ftl_model.specs.layout.Solves.{Instance}
use Rattle.ftl_model.specs.layout.Tree.{Forest}
use Rattle.ftl_model.specs.layout.TreeOf.{IsTreeOf}
use Rattle.ftl_order.specs.orders.Lawful.{IsLawful}
use Rattle.ftl_order.specs.orders.Schedule.{EachStandsOnce, Schedule, pass_at, placing_of}
use Rattle.ftl_order.specs.orders.Sequence.{sequence_at}
use Rattle.ftl_items.specs.stage_items.Items.{pass_place}
use Rattle.ftl_order.specs.steps.Steps.{target_of_rule}
use Rattle.ftl_visit.specs.visits.Visits.{children, inherited_rules, locals, synthesized_rules}
use Rattle.ftl_visit.specs.declared.visits.visit_op.VisitOp.{VisitOp}
use Rattle.ftl_cursors.specs.visit_steps.VisitLaws.{rules_run}

-- the instances of the rules that these operations run at a node, where they are for the kid of this number
abbrev pub targets : AttributeGrammar → Path → (kid : ℕ) → List VisitOp → List Instance
targets g p k ops = map (λ w. target_of_rule p w k) (flat_map (rules_run g) ops)

-- what the block of a child does for one kid, where its visit does this
abbrev pub block_at : AttributeGrammar → (class : ℕ) → (attributes : List ℕ) → Path → (visit : Path → List Instance)
    → (child kid : ℕ) → List Instance
block_at g class attributes p visit c k =
    targets g p k (inherited_rules g class c attributes) ++ visit (down c k p)

-- what the operations of the visit of a node do: its locals, then child by child the block for each kid, and then its
-- synthesized attributes
abbrev pub done_at : AttributeGrammar → Forest → (attributes : List ℕ) → (visit : Path → List Instance) → Path
    → List Instance
done_at g t attributes visit p =
    targets g p 0 (locals g (class_at t p) attributes)
    ++ (flat_map
    (λ c. flat_map (block_at g (class_at t p) attributes p visit c) (range_with_len 0 (kids_at t p c)))
    (children g (class_at t p))
    ++ targets g p 0 (synthesized_rules g (class_at t p) attributes))

-- the sequence of a pass at a node is what the operations of its visit do, where the visit of a kid is the sequence
-- there
abbrev pub VisitsAreTheSequence : Type 0
VisitsAreTheSequence =
    (g : AttributeGrammar) (s : Schedule) (t : Forest) → IsLawful g → EachStandsOnce g s → IsTreeOf g t
    → (stage pass : ℕ) (p : Path) → Has t p
    → sequence_at g (placing_of s) (pass_place stage pass) t p
    ≡ done_at g t (pass_at s stage pass).attributes (sequence_at g (placing_of s) (pass_place stage pass) t) p
