-- A table as a list: one value for each attribute instance, by node in preorder, then by the number of the attribute.
use Rattle.std.specs.Prelude.{◌≡◌, ℕ, ◌+◌, List, length, map, sum_by, take, slice_index_or}
use Rattle.std.specs.List.{flat_map}
use Rattle.ftl_model.specs.lists.Lists.{place_in}
use Rattle.ftl_model.specs.layout.Values.{Value, overflow}
use Rattle.ftl_model.specs.layout.Tree.{Forest}
use Rattle.ftl_model.specs.layout.Path.{Path, class_at, preorder, number_of}
use Rattle.ftl_model.specs.layout.AttributeGrammar.{AttributeGrammar, attributes_of}
use Rattle.ftl_model.specs.layout.Solves.{Instance, instance_of, Solves}

-- how many attributes a node has
abbrev pub width_at : AttributeGrammar → Forest → Path → ℕ
width_at g t p = length (attributes_of g (class_at t p))

-- the instances of a tree, in order
abbrev pub instances : AttributeGrammar → Forest → List Instance
instances g t = flat_map (λ p. map (instance_of p) (attributes_of g (class_at t p))) (preorder t)

-- how many values a table of the tree has
abbrev pub instance_count : AttributeGrammar → Forest → ℕ
instance_count g t = sum_by (width_at g t) (preorder t)

-- where the instances of a node begin: those of the nodes before it come first
abbrev pub first_instance : AttributeGrammar → Forest → Path → ℕ
first_instance g t p = sum_by (width_at g t) (take (number_of t p) (preorder t))

-- the number of an instance
abbrev pub instance_number : AttributeGrammar → Forest → Instance → ℕ
instance_number g t i = first_instance g t i.node + place_in (attributes_of g (class_at t i.node)) i.attribute

-- the value of an instance in a list that has one for each
abbrev pub value_in : AttributeGrammar → Forest → List Value → Instance → Value
value_in g t values i = slice_index_or values (instance_number g t i) overflow

-- a list of values, one for each instance, that solves the tree
pub record SolvesList (g : AttributeGrammar) (t : Forest) (values : List Value) : Type 0 where
  pub count : length values ≡ instance_count g t
  pub solves : Solves g t (value_in g t values)
