-- The attributes of a node of a page.
use Rattle.std.proofs.Common.{◌≡◌, ◌<◌, ◌↔◌, ◌∙◌, ap, sym, subst, arith, ℕ, Bool, true, false, IsTrue, List, length, get_or, Contains}
use Rattle.std.proofs.lemmas.Bool.{both_ways}
use Rattle.std.proofs.lemmas.List.Elements.{Contains-get_or}
use Rattle.ftl_checked.proofs.lookup.AttrInfos.{attribute_count_is}
use Rattle.std.specs.List.{All}
use Rattle.ftl_deps.specs.reads.Meant.{meant}
use Rattle.ftl_step_value.proofs.limits.reads.Entries.{attribute_in_range, class_in_range, there}
use Rattle.ftl_meaning.specs.faults.Checked.{CheckedGrammar, all_attributes}
use Rattle.ftl_model.specs.layout.AttributeGrammar.{AttributeGrammar, attributes_of, class_inputs, is_input}
use Rattle.ftl_model.specs.layout.Path.{class_at, node_at}
use Rattle.ftl_model.specs.layout.Solves.{instance_of}
use Rattle.ftl_model.specs.layout.Table.{instance_count, instance_number}
use Rattle.ftl_model.specs.layout.Tree.{Forest, size}
use Rattle.ftl_model.specs.layout.TreeOf.{IsTreeOf}
use Rattle.ftl_model.proofs.lists.Elements.{filter_has, in_filter}
use Rattle.ftl_order.specs.orders.Lawful.{IsLawful, OfClass}
use Rattle.ftl_order.proofs.orders.Instances.{number_within}
use Rattle.ftl_tree.proofs.boxes.Lines.{of_class}
use Rattle.ftl_tree.specs.boxes.Shows.{node_shows}
use Rattle.maugzeris.specs.pages.PageState.{HasAttribute, PageState, class_on, tree_on}

module _ (k : CheckedGrammar) (law : IsLawful (meant k)) (t : Forest) (fits : IsTreeOf (meant k) t) (node : ℕ)
    (known : node < size t) where
  -- its class is one of the grammar
  pub class_within : (c : CheckedGrammar) (class : ℕ) → c ≡ k → class ≡ class_at t (node_at t node)
      → class < (meant c).class_count
  class_within c class same is =
      let below =
      subst (λ (x : CheckedGrammar). class_at t (node_at t node) < (meant x).class_count) (sym same)
      (class_in_range (meant k) law t fits node known) in
      omega (arith, is, below)

  -- an attribute of it is one of the grammar
  pub attribute_within : (c : CheckedGrammar) → c ≡ k → (attr : ℕ) → OfClass (meant k) (class_at t (node_at t node)) attr
      → attr < length (all_attributes c.grammar)
  attribute_within c same attr of =
      let below =
      subst (λ (x : CheckedGrammar). attr < (meant x).attribute_count) (sym same)
      (attribute_in_range (meant k) law t fits node attr known of) in
      let count = attribute_count_is c.grammar in
      omega (arith, below, count)

  -- and its instance has a value
  pub instance_within : (attr : ℕ) → OfClass (meant k) (class_at t (node_at t node)) attr
      → instance_number (meant k) t (instance_of (node_at t node) attr) < instance_count (meant k) t
  instance_within attr of =
      number_within (meant k) t (node_at t node) attr (there (meant k) law t fits node known) of

-- what a node shows is among its attributes
pub shown_has : (p : PageState) → IsTreeOf (meant p.checked) p.tree → (node : ℕ) → node < size p.tree
    → (shown : List ℕ) → shown ≡ node_shows (tree_on p) node → (place : ℕ) → place < length (node_shows (tree_on p) node)
    → HasAttribute p node (get_or shown place 0)
shown_has p fits node known shown are place within =
    let count : length shown ≡ length (node_shows (tree_on p) node) = ap length are in
    of_class (tree_on p) node fits known (get_or shown place 0)
    (subst (λ (xs : List ℕ). Contains xs (get_or shown place 0)) are
    (Contains-get_or shown place 0 (omega (arith, count, within))))

-- so all that it shows are
pub shown_all : (p : PageState) → IsTreeOf (meant p.checked) p.tree → (node : ℕ) → node < size p.tree
    → (shown : List ℕ) → shown ≡ node_shows (tree_on p) node → All (HasAttribute p node) shown
shown_all p fits node known shown are k d within =
    of_class (tree_on p) node fits known (get_or shown k d)
    (subst (λ (xs : List ℕ). Contains xs (get_or shown k d)) are (Contains-get_or shown k d within))

-- and what is listed of a class is among its attributes
pub listed_all : (p : PageState) (node : ℕ) (listed : List ℕ)
    → listed ≡ attributes_of (meant p.checked) (class_on p node) → All (HasAttribute p node) listed
listed_all p node listed are k d within =
    subst (λ (xs : List ℕ). Contains xs (get_or listed k d)) are (Contains-get_or listed k d within)

-- an attribute of the class is an input of it where it is an input
pub if_of_class : (g : AttributeGrammar) (class attr : ℕ) (has input : Bool)
    → (IsTrue has ↔ Contains (attributes_of g class) attr) → has ≡ true → input ≡ is_input (g.sort attr)
    → IsTrue input ↔ Contains (class_inputs g class) attr
if_of_class g class attr has input of passed is = (
  λ (told : IsTrue input).
      filter_has (λ a. is_input (g.sort a)) (attributes_of g class) attr (of.0 passed) (sym is ∙ told),
  λ (there : Contains (class_inputs g class) attr).
      is ∙ (in_filter (λ a. is_input (g.sort a)) (attributes_of g class) attr there).1,
)

-- an attribute of another class is no input of it
pub if_of_another : (g : AttributeGrammar) (class attr : ℕ) (has : Bool)
    → (IsTrue has ↔ Contains (attributes_of g class) attr) → has ≡ false
    → IsTrue has ↔ Contains (class_inputs g class) attr
if_of_another g class attr has of failed = (
  λ (told : IsTrue has). absurd (both_ways has failed told),
  λ (there : Contains (class_inputs g class) attr).
      absurd
      (both_ways has failed (of.1 (in_filter (λ a. is_input (g.sort a)) (attributes_of g class) attr there).0)),
)
