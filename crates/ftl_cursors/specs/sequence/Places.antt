-- Where a cursor stands: at operations of a node, and at a kid.
use Rattle.std.specs.Prelude.{◌≡◌, ℕ, suc, ◌<◌, List, [], ◌∷◌, Option, Some, None}
use Rattle.ftl_deps.specs.reads.Meant.{meant}
use Rattle.ftl_model.specs.layout.AttributeGrammar.{AttributeGrammar}
use Rattle.ftl_model.specs.layout.Path.{AtOrAbove, Path, class_at, kids_at, node_at}
use Rattle.ftl_model.specs.layout.Tree.{Forest, size}
use Rattle.ftl_schedule.specs.declared.syntax.kind.PassKind.TheVariants.{InOrder}
use Rattle.ftl_order.specs.declared.steps.step.Step.{Step}
use Rattle.ftl_visit.specs.declared.visits.visit_op.VisitOp.{VisitOp}
use Rattle.ftl_visit.specs.declared.visits.visit_op.VisitOp.TheVariants.{Begin, Rule, Visit}
use Rattle.ftl_visit.specs.passes.VisitRows.{visits_of}
use Rattle.ftl_cursors.specs.sequence.BlockPlaces.{places_of}
use Rattle.ftl_cursors.specs.sequence.Moves.{moves_from_kid, moves_left, moves_up}
use Rattle.ftl_cursors.specs.sequence.SequenceRest.{from_kid, rest_of_ops, rest_up}
use Rattle.ftl_cursors.specs.declared.sequence.place.Place.{Place}
use Rattle.ftl_cursors.specs.declared.sequence.place.Tables.{Tables}

-- the grammar
abbrev pub grammar_of : Tables → AttributeGrammar
grammar_of x = meant x.tree.now.checked

-- the tree
abbrev pub tree_of : Tables → Forest
tree_of x = x.tree.now.tree

-- the node of this number
abbrev pub node_of : Tables → (node : ℕ) → Path
node_of x n = node_at (tree_of x) n

-- the node whose tree it is
abbrev pub first_of : Tables → Path
first_of x = node_of x x.first

-- the node is the first one or below it
abbrev pub IsWithin : Tables → (node : ℕ) → Type 0
IsWithin x n = AtOrAbove (first_of x) (node_of x n)

-- the node is there, the visits are those of an inorder pass with these attributes, and the places those of their
-- blocks
pub record AreTables (x : Tables) : Type 0 where
  pub first : x.first < size (tree_of x)
  pub visits : x.visits.now ≡ visits_of (grammar_of x) InOrder x.attrs.now
  pub places : x.places.now ≡ places_of x.visits.now

-- the rule that comes first; none where another operation does
abbrev pub rule_first : List VisitOp → Option ℕ
rule_first [] = None
rule_first (Rule r ∷ ops) = Some r
rule_first (Begin c ∷ ops) = None
rule_first (Visit c ∷ ops) = None

-- the child at which the operations stand next is there, and so is the kid at hand where it is visited
abbrev pub FitOps : AttributeGrammar → Forest → Path → (kid : ℕ) → List VisitOp → Type 0
FitOps g t p k [] = Unit {0}
FitOps g t p k (Rule r ∷ ops) = FitOps g t p k ops
FitOps g t p k (Begin c ∷ ops) = c < g.child_count (class_at t p)
FitOps g t p k (Visit c ∷ ops) = (c < g.child_count (class_at t p)) × (k < kids_at t p c)

-- all is of the tree at the first node
pub record IsPlace (x : Tables) (at : Place) : Type 0 where
  pub node : at.node < size (tree_of x)
  pub within : IsWithin x at.node
  pub ops : FitOps (grammar_of x) (tree_of x) (node_of x at.node) at.kid at.ops.now

-- the steps that are left
abbrev pub left : Tables → Place → List Step
left x at = rest_of_ops (grammar_of x) (tree_of x) x.attrs.now (first_of x) (node_of x at.node) at.kid at.ops.now

-- how often a cursor goes on without a step
abbrev pub moves_at : Tables → Place → ℕ
moves_at x at = moves_left (grammar_of x) (tree_of x) (first_of x) (node_of x at.node) at.kid at.ops.now

-- what comes after a node and all below it
abbrev pub rest_after : Tables → (node : ℕ) → List Step
rest_after x n = rest_up (grammar_of x) (tree_of x) x.attrs.now (first_of x) (node_of x n)

-- and how many moves
abbrev pub moves_after : Tables → (node : ℕ) → ℕ
moves_after x n = moves_up (grammar_of x) (tree_of x) (first_of x) (node_of x n)

-- a place where this is left
pub record IsSequencePlace (x : Tables) (at : Place) (steps : List Step) (count : ℕ) : Type 0 where
  pub place : IsPlace x at
  pub left : left x at ≡ steps
  pub moves : moves_at x at ≡ count

-- it is where what comes after a node begins
abbrev pub IsAfter : Tables → (node : ℕ) → Place → Type 0
IsAfter x n at = IsSequencePlace x at (rest_after x n) (moves_after x n)

-- it is at this kid of a child, or behind the child where it has no such kid
abbrev pub IsAtKid : Tables → (node child kid : ℕ) → Place → Type 0
IsAtKid x n c k at =
    IsSequencePlace x at (from_kid (grammar_of x) (tree_of x) x.attrs.now (node_of x n) c k (rest_after x n))
    (moves_from_kid (grammar_of x) (tree_of x) (node_of x n) c k (moves_after x n))

-- it is at the first operation of a kid
pub record IsFirst (x : Tables) (node child kid : ℕ) (at : Place) : Type 0 where
  pub place : IsPlace x at
  pub left : left x at
      ≡ rest_of_ops (grammar_of x) (tree_of x) x.attrs.now (first_of x) (node_of x node) kid (Visit child ∷ [])
  pub moves : suc (moves_at x at)
      ≡ moves_left (grammar_of x) (tree_of x) (first_of x) (node_of x node) kid (Visit child ∷ [])

-- as much is left there, with fewer moves
pub record IsNext (x : Tables) (at next : Place) : Type 0 where
  pub place : IsPlace x next
  pub left : left x next ≡ left x at
  pub less : moves_at x next < moves_at x at
