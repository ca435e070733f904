-- Trees in which an input has another number.
use Rattle.std.specs.Prelude.{◌≡◌, ℕ, suc, ◌+◌, ◌<◌, ◌==◌, if◌then◌else◌, ℤ, List, Contains, slice_set}
use Rattle.ftl_model.specs.lists.Lists.{place_in}
use Rattle.ftl_model.specs.layout.AttributeGrammar.{AttributeGrammar, class_inputs, input_value}
use Rattle.ftl_model.specs.layout.Inputs.{IsSameButInputs}
use Rattle.ftl_model.specs.layout.Path.{Path, Has, class_at, inputs_at, node_at}
use Rattle.ftl_model.specs.layout.Tree.{Forest, none, size, tree}
use Rattle.ftl_model.specs.layout.TreeOf.{IsInput, IsTreeOf}
use Rattle.ftl_model.specs.layout.Values.{Value, number}

-- the trees, whose nodes are numbered in preorder from a first one, with what a change makes of the inputs of each node
-- by its number
abbrev pub with_inputs : (change : ℕ → List ℤ → List ℤ) → (first : ℕ) → Forest → Forest
with_inputs change n none = none
with_inputs change n (tree class child inputs below beside) =
    tree class child (change n inputs) (with_inputs change (suc n) below)
    (with_inputs change (suc n + size below) beside)

-- the change of one number of one node: the inputs of the other nodes stay
abbrev pub changed : (node place : ℕ) → ℤ → (number : ℕ) → List ℤ → List ℤ
changed n place z m numbers = if m == n then slice_set numbers place z else numbers

-- the tree with this number for an input of a node
abbrev pub with_input : AttributeGrammar → Forest → (node attribute : ℕ) → ℤ → Forest
with_input g t n a z = with_inputs (changed n (place_in (class_inputs g (class_at t (node_at t n))) a) z) 0 t

-- ---- what changes

-- an input of a node
pub record IsInputOf (g : AttributeGrammar) (t : Forest) (node attribute : ℕ) : Type 0 where
  pub is_tree : IsTreeOf g t
  pub known : node < size t
  pub input : Contains (class_inputs g (class_at t (node_at t node))) attribute

-- its value
abbrev pub value_at : AttributeGrammar → Forest → Path → (attribute : ℕ) → Value
value_at g t p a = input_value g (class_at t p) a (inputs_at t p)

-- the trees are the same but for their inputs, this input of this node has this number, and each other input of the
-- node, and each input of another node, has the value that it had
pub record IsChangedThere (g : AttributeGrammar) (t u : Forest) (node attribute : ℕ) (z : ℤ) : Type 0 where
  pub same : IsSameButInputs t u
  pub there : value_at g u (node_at t node) attribute ≡ number z
  pub beside :
      (a : ℕ) → Contains (class_inputs g (class_at t (node_at t node))) a → (a ≡ attribute → ⊥)
      → value_at g u (node_at t node) a ≡ value_at g t (node_at t node) a
  pub elsewhere : (p : Path) → Has t p → (p ≡ node_at t node → ⊥) → inputs_at u p ≡ inputs_at t p

-- a tree with another number for an input is changed there, and nowhere else
abbrev pub ChangesOneInput : Type 0
ChangesOneInput =
    (g : AttributeGrammar) (t : Forest) (node attribute : ℕ) (z : ℤ) → IsInputOf g t node attribute
    → IsInput g.greatest z → IsChangedThere g t (with_input g t node attribute z) node attribute z
