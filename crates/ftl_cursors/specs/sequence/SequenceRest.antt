-- The steps that are left at a place of an inorder pass over the tree at a node: of these operations at a node below
-- it, and of what comes after them.
use Rattle.std.specs.Prelude.{ℕ, ◌+◌, ◌-◌, if◌then◌else◌, List, [], ◌∷◌, ◌++◌, flat_map}
use Rattle.std.specs.List.{range_with_len}
use Rattle.ftl_model.specs.layout.AttributeGrammar.{AttributeGrammar}
use Rattle.ftl_model.specs.layout.Path.{Path, class_at, down, kids_at, number_of, top}
use Rattle.ftl_model.specs.layout.Tree.{Forest}
use Rattle.ftl_items.specs.stage_items.Items.{is_same_node}
use Rattle.ftl_order.specs.declared.steps.step.Step.{Step}
use Rattle.ftl_cursors.specs.inorder.InorderSteps.{child_steps, inorder_steps, kid_steps, last_steps}
use Rattle.ftl_visit.specs.declared.visits.visit_op.VisitOp.{VisitOp}
use Rattle.ftl_visit.specs.declared.visits.visit_op.VisitOp.TheVariants.{Begin, Rule, Visit}

-- at a node the steps for its children from this one on, its last steps, and then these
abbrev pub from_child : AttributeGrammar → Forest → (attributes : List ℕ) → Path → (child : ℕ) → List Step → List Step
from_child g t attributes p c rest =
    flat_map (child_steps g t attributes p) (range_with_len c (g.child_count (class_at t p) - c))
    ++ (last_steps g t attributes p ++ rest)

-- those for the kids in a child from this one on, and for the children after it
abbrev pub from_kid : AttributeGrammar → Forest → (attributes : List ℕ) → Path → (child kid : ℕ) → List Step
    → List Step
from_kid g t attributes p c k rest =
    flat_map (kid_steps g t attributes p c) (range_with_len k (kids_at t p c - k))
    ++ from_child g t attributes p (c + 1) rest

-- what comes after the steps at a node and all below it: nothing at the first node, whose tree it is
abbrev pub rest_up : AttributeGrammar → Forest → (attributes : List ℕ) → (first : Path) → Path → List Step
rest_up g t attributes first top = []
rest_up g t attributes first (down c k p) =
    if is_same_node first (down c k p) then []
    else from_kid g t attributes p c (k + 1) (rest_up g t attributes first p)

-- what is left at a node where these operations are, the kid at hand being this one
abbrev pub rest_of_ops : AttributeGrammar → Forest → (attributes : List ℕ) → (first : Path) → Path → (kid : ℕ)
    → List VisitOp → List Step
rest_of_ops g t attributes first p k [] = rest_up g t attributes first p
rest_of_ops g t attributes first p k (Rule r ∷ ops) =
    record { node = number_of t p; rule = r; kid = k } ∷ rest_of_ops g t attributes first p k ops
rest_of_ops g t attributes first p k (Begin c ∷ ops) = from_kid g t attributes p c 0 (rest_up g t attributes first p)
rest_of_ops g t attributes first p k (Visit c ∷ ops) =
    inorder_steps g t attributes (down c k p)
    ++ from_kid g t attributes p c (k + 1) (rest_up g t attributes first p)
