-- Sets of classes as bits of a number, and those of the nodes of a tree, block by block.
use Rattle.std.specs.Prelude.{◌≡◌, ◌≢◌, ℕ, ◌*◌, ◌/◌, ◌%◌, ◌<◌, ◌≤◌, Bool, true, false, List, [], ◌∷◌, length}
use Rattle.std.specs.Prelude.{slice_index_or, bit_and, Contains}
use Rattle.std.specs.Int.{bit_at}
use Rattle.ftl_model.specs.layout.Path.{Path, class_at, node_at}
use Rattle.ftl_model.specs.layout.Tree.{Forest, size}
use Rattle.ftl_visit.specs.declared.visits.visit_op.VisitOp.{VisitOp}
use Rattle.ftl_visit.specs.declared.visits.visit_op.VisitOp.TheVariants.{Begin, Rule, Visit}

-- the set has the class; classes that are 128 apart count as one
abbrev pub HasClass : (set class : ℕ) → Type 0
HasClass set class = bit_at set (class % 128) ≡ 1

-- it has the classes of another set
abbrev pub HasAllOf : (set other : ℕ) → Type 0
HasAllOf set other = (class : ℕ) → HasClass other class → HasClass set class

-- the two sets have no class in common
abbrev pub HaveNoneInCommon : (set other : ℕ) → Type 0
HaveNoneInCommon set other = bit_and set other ≡ 0

-- it has each class whose visit has an operation
abbrev pub HasVisited : (set : ℕ) → (visits : List (List VisitOp)) → Type 0
HasVisited set visits = (class : ℕ) → slice_index_or visits class [] ≢ [] → HasClass set class

-- one of the operations is a rule
abbrev pub has_rule : List VisitOp → Bool
has_rule [] = false
has_rule (Rule r ∷ ops) = true
has_rule (Begin c ∷ ops) = has_rule ops
has_rule (Visit c ∷ ops) = has_rule ops

-- the set has each class whose visit has a rule
abbrev pub HasRuled : (set : ℕ) → (visits : List (List VisitOp)) → Type 0
HasRuled set visits = (class : ℕ) → has_rule (slice_index_or visits class []) ≡ true → HasClass set class

-- the class of a node
abbrev pub class_of : Forest → (node : ℕ) → ℕ
class_of t n = class_at t (node_at t n)

-- the set has the classes of the nodes from the first on, up to the end
abbrev pub HasClassesBetween : (set : ℕ) → Forest → (first end : ℕ) → Type 0
HasClassesBetween set t first end = (n : ℕ) → first ≤ n → n < end → HasClass set (class_of t n)

-- it has the classes of these nodes
abbrev pub HasClassesOf : (set : ℕ) → Forest → (nodes : List Path) → Type 0
HasClassesOf set t nodes = (p : Path) → Contains nodes p → HasClass set (class_at t p)

-- the number of the block of 64 in which a node lies, or an item
abbrev pub block_of : (number : ℕ) → ℕ
block_of n = n / 64

-- there is a set for each block, and it has the classes of the block's nodes
pub record AreClassBlocks (t : Forest) (sets : List ℕ) : Type 0 where
  pub count : size t ≤ 64 * length sets
  pub classes : (n : ℕ) → n < size t → HasClass (slice_index_or sets (block_of n) 0) (class_of t n)
