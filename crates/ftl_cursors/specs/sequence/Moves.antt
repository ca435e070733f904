-- How often a cursor goes on without a step: into each node and out of it, and once at each child of its class.
use Rattle.std.specs.Prelude.{ℕ, suc, ◌+◌, ◌-◌, if◌then◌else◌, List, [], ◌∷◌, ◌++◌, flat_map, length}
use Rattle.std.specs.List.{range_with_len}
use Rattle.ftl_model.specs.layout.AttributeGrammar.{AttributeGrammar}
use Rattle.ftl_model.specs.layout.Path.{Path, at as tree_at, class_at, down, kids_at, top}
use Rattle.ftl_model.specs.layout.Tree.{Forest, below_of, none, tree}
use Rattle.ftl_items.specs.stage_items.Items.{is_same_node}
use Rattle.ftl_visit.specs.visits.Visits.{children}
use Rattle.ftl_visit.specs.declared.visits.visit_op.VisitOp.{VisitOp}
use Rattle.ftl_visit.specs.declared.visits.visit_op.VisitOp.TheVariants.{Begin, Rule, Visit}

-- at a node of this class itself
abbrev pub own_moves : AttributeGrammar → (class : ℕ) → List ℕ
own_moves g class = 0 ∷ 0 ∷ children g class

-- in trees side by side
abbrev pub moves : AttributeGrammar → Forest → List ℕ
moves g none = []
moves g (tree class child inputs below beside) = own_moves g class ++ (moves g below ++ moves g beside)

-- in the tree at a kid
abbrev pub kid_moves : AttributeGrammar → Forest → Path → (child kid : ℕ) → List ℕ
kid_moves g t p c k = own_moves g (class_at t (down c k p)) ++ moves g (below_of (tree_at t (down c k p)))

-- in those of the kids in a child
abbrev pub child_moves : AttributeGrammar → Forest → Path → (child : ℕ) → List ℕ
child_moves g t p c = flat_map (kid_moves g t p c) (range_with_len 0 (kids_at t p c))

-- at a node from this child on, and then so many
abbrev pub moves_from_child : AttributeGrammar → Forest → Path → (child rest : ℕ) → ℕ
moves_from_child g t p c rest =
    length (flat_map (child_moves g t p) (range_with_len c (g.child_count (class_at t p) - c)))
    + (g.child_count (class_at t p) - c) + suc rest

-- from this kid in a child on
abbrev pub moves_from_kid : AttributeGrammar → Forest → Path → (child kid rest : ℕ) → ℕ
moves_from_kid g t p c k rest =
    length (flat_map (kid_moves g t p c) (range_with_len k (kids_at t p c - k))) + moves_from_child g t p (c + 1) rest

-- after a node and all below it: none at the first node
abbrev pub moves_up : AttributeGrammar → Forest → (first : Path) → Path → ℕ
moves_up g t first top = 0
moves_up g t first (down c k p) =
    if is_same_node first (down c k p) then 0 else moves_from_kid g t p c (k + 1) (moves_up g t first p)

-- at a node where these operations are left, the kid at hand being this one
abbrev pub moves_left : AttributeGrammar → Forest → (first : Path) → Path → (kid : ℕ) → List VisitOp → ℕ
moves_left g t first p k [] = suc (moves_up g t first p)
moves_left g t first p k (Rule r ∷ ops) = moves_left g t first p k ops
moves_left g t first p k (Begin c ∷ ops) = suc (moves_from_kid g t p c 0 (moves_up g t first p))
moves_left g t first p k (Visit c ∷ ops) =
    length (kid_moves g t p c k) + moves_from_kid g t p c (k + 1) (moves_up g t first p)
