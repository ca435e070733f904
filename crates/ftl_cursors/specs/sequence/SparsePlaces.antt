-- What a cursor knows that passes over trees without rules: nodes that have none, and kids that have no steps.
use Rattle.std.specs.Prelude.{◌≡◌, ℕ, ◌+◌, ◌<◌, ◌≤◌, false, [], ◌∷◌, slice_index_or}
use Rattle.ftl_model.specs.layout.Path.{class_at, kids_at, size_at}
use Rattle.ftl_model.specs.layout.Tree.{size}
use Rattle.ftl_cursors.specs.classes.ClassSets.{AreClassBlocks, HasRuled, class_of, has_rule}
use Rattle.ftl_cursors.specs.inorder.InorderSteps.{kid_steps}
use Rattle.ftl_cursors.specs.sequence.Moves.{moves_left}
use Rattle.ftl_cursors.specs.sequence.Places.{AreTables, IsPlace, first_of, grammar_of, left, moves_at, node_of, tree_of}
use Rattle.ftl_cursors.specs.sequence.SequenceRest.{rest_of_ops}
use Rattle.ftl_cursors.specs.declared.sequence.place.Place.{Place}
use Rattle.ftl_cursors.specs.declared.sequence.place.Tables.{Tables}
use Rattle.ftl_cursors.specs.declared.sequence.ruleless.RulelessNodes.{RulelessNodes}
use Rattle.ftl_cursors.specs.declared.sequence.ruleless.SparseTables.{SparseTables}
use Rattle.ftl_visit.specs.visits.Visits.{inherited_rules}
use Rattle.ftl_visit.specs.declared.visits.visit_op.VisitOp.TheVariants.{Visit}

-- the blocks are those of the tree, and the set has each class with rules
pub record AreSparseTables (x : SparseTables) : Type 0 where
  pub all : AreTables x.all
  pub blocks : AreClassBlocks (tree_of x.all) x.blocks.now
  pub ruled : HasRuled x.ruled x.all.visits.now

-- the class of the node has no rule
abbrev pub HasNoRule : SparseTables → (node : ℕ) → Type 0
HasNoRule x n = has_rule (slice_index_or x.all.visits.now (class_of (tree_of x.all) n) []) ≡ false

-- nor have those of the nodes from the first on, up to the end
abbrev pub HaveNoRulesIn : SparseTables → (first end : ℕ) → Type 0
HaveNoRulesIn x first end = (n : ℕ) → first ≤ n → n < end → n < size (tree_of x.all) → HasNoRule x n

-- what is known of nodes is so
abbrev pub AreKnown : SparseTables → RulelessNodes → Type 0
AreKnown x nodes = HaveNoRulesIn x nodes.first nodes.end

-- no node of the tree at a node has rules
abbrev pub HasNoRulesBelow : SparseTables → (node : ℕ) → Type 0
HasNoRulesBelow x n = HaveNoRulesIn x n (n + size_at (tree_of x.all) (node_of x.all n))

-- the node has no rules for the kids in a child
abbrev pub HasNoKidRules : Tables → (node child : ℕ) → Type 0
HasNoKidRules x n c = inherited_rules (grammar_of x) (class_at (tree_of x) (node_of x n)) c x.attrs.now ≡ []

-- the kids in a child from one on, up to the end, have no steps, nor has the node for them
abbrev pub HaveNoSteps : SparseTables → (node child kid end : ℕ) → Type 0
HaveNoSteps x n c kid end =
    (k : ℕ) → kid ≤ k → k < end → k < kids_at (tree_of x.all) (node_of x.all n) c
    → kid_steps (grammar_of x.all) (tree_of x.all) x.all.attrs.now (node_of x.all n) c k ≡ []

-- as much is left there as at the visit of a kid, with fewer moves
pub record IsVisited (x : Tables) (node child kid : ℕ) (at : Place) : Type 0 where
  pub place : IsPlace x at
  pub left : left x at
      ≡ rest_of_ops (grammar_of x) (tree_of x) x.attrs.now (first_of x) (node_of x node) kid (Visit child ∷ [])
  pub less : moves_at x at
      < moves_left (grammar_of x) (tree_of x) (first_of x) (node_of x node) kid (Visit child ∷ [])
