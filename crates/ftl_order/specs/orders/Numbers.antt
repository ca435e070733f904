-- Numbers of nodes and of instances: each node has its own, a subtree is a range of them, and so are a node's
-- instances.
use Rattle.std.specs.Prelude.{◌≡◌, ◌↔◌, ℕ, ◌+◌, ◌<◌, length, slice_index_or}
use Rattle.ftl_model.specs.layout.AttributeGrammar.{AttributeGrammar}
use Rattle.ftl_model.specs.layout.Path.{Above, Has, Path, node_at, number_of, preorder, size_at, top}
use Rattle.ftl_model.specs.layout.Solves.{Instance, IsInstance}
use Rattle.ftl_model.specs.layout.Table.{instance_count, instance_number, instances}
use Rattle.ftl_model.specs.layout.Tree.{Forest, IsTree}
use Rattle.ftl_model.specs.layout.TreeOf.{IsTreeOf}
use Rattle.ftl_order.specs.orders.Lawful.{IsLawful}

-- how many nodes a tree has
abbrev pub node_count : Forest → ℕ
node_count t = size_at t top

-- a node has a number below the count of nodes, and stands at it
abbrev pub NodesHaveNumbers : Type 0
NodesHaveNumbers =
    (t : Forest) (p : Path) → Has t p → (number_of t p < node_count t) × (node_at t (number_of t p) ≡ p)

-- each number below the count is the number of the node there
abbrev pub NumbersHaveNodes : Type 0
NumbersHaveNodes =
    (t : Forest) (n : ℕ) → IsTree t → n < node_count t → Has t (node_at t n) × (number_of t (node_at t n) ≡ n)

-- the list of nodes has each
abbrev pub PreorderIsWhole : Type 0
PreorderIsWhole = (t : Forest) → length (preorder t) ≡ node_count t

-- the number lies after that of the node, among as many as its tree has
abbrev pub InRangeOf : Forest → Path → ℕ → Type 0
InRangeOf t p n = (number_of t p < n) × (n < number_of t p + size_at t p)

-- a node is above another exactly where the other's number lies in its range
abbrev pub SubtreesAreRanges : Type 0
SubtreesAreRanges = (t : Forest) (p q : Path) → Has t p → Has t q → Above p q ↔ InRangeOf t p (number_of t q)

-- an instance has a number below the count of instances, and stands at it
abbrev pub InstancesHaveNumbers : Type 0
InstancesHaveNumbers =
    (g : AttributeGrammar) (t : Forest) (i d : Instance) → IsInstance g t i
    → (instance_number g t i < instance_count g t) × (slice_index_or (instances g t) (instance_number g t i) d ≡ i)

-- each number below the count is the number of the instance there
abbrev pub NumbersHaveInstances : Type 0
NumbersHaveInstances =
    (g : AttributeGrammar) (t : Forest) (n : ℕ) (d : Instance) → IsLawful g → IsTreeOf g t
    → n < instance_count g t
    → IsInstance g t (slice_index_or (instances g t) n d)
    × (instance_number g t (slice_index_or (instances g t) n d) ≡ n)
