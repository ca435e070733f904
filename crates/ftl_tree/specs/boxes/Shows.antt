-- What nodes show, and the line of a node.
use Rattle.std.specs.Prelude.{◌≡◌, ℕ, Bool, ◌++◌, List, codes, length, map, flat_map}
use Rattle.std.specs.Fmt.{decimal}
use Rattle.ftl_model.specs.layout.Boxes.{field_text, is_overflow}
use Rattle.ftl_model.specs.layout.Path.{class_at, node_at}
use Rattle.ftl_model.specs.layout.Solves.{instance_of}
use Rattle.ftl_model.specs.layout.Table.{instance_count}
use Rattle.ftl_model.specs.layout.TreeOf.{IsTreeOf}
use Rattle.ftl_grammar.specs.declared.syntax.rules.Grammar.{Grammar}
use Rattle.ftl_meaning.specs.faults.Numbering.{interface_of, numbered}
use Rattle.ftl_deps.specs.reads.Meant.{meant}
use Rattle.ftl_meaning.specs.grammars.GrammarOf.{names_of, shown_attributes}
use Rattle.ftl_tree.specs.trees.CheckedTree.{CheckedTree}
use Rattle.ftl_tree.specs.boxes.WordValues.{table_of_words}

-- there is one word for each instance of the tree
pub record HasWords (t : CheckedTree) (words : List ℕ) : Type 0 where
  pub is_tree : IsTreeOf (meant t.checked) t.tree
  pub count : length words ≡ instance_count (meant t.checked) t.tree

-- the attributes that each interface shows
abbrev pub shown_rows : Grammar → List (List ℕ)
shown_rows g = map (λ x. shown_attributes g x.0) (numbered 0 g.interfaces)

-- the class of the node of this number
abbrev pub node_class : CheckedTree → (node : ℕ) → ℕ
node_class t n = class_at t.tree (node_at t.tree n)

-- what that node shows
abbrev pub node_shows : CheckedTree → (node : ℕ) → List ℕ
node_shows t n = shown_attributes t.checked.grammar (interface_of t.checked.grammar (node_class t n))

-- a field for each of some attributes of the node
abbrev pub fields_text : CheckedTree → (words : List ℕ) → (node : ℕ) → (attributes : List ℕ) → List ℕ
fields_text t words n attributes =
    flat_map (field_text (names_of t.checked.grammar) (table_of_words t words) (node_at t.tree n)) attributes

-- whether an attribute of the node is Overflow
abbrev pub shows_in : CheckedTree → (words : List ℕ) → (node attribute : ℕ) → Bool
shows_in t words n a = is_overflow (table_of_words t words (instance_of (node_at t.tree n) a))

-- its line
abbrev pub line_text : CheckedTree → (words : List ℕ) → (node : ℕ) → List ℕ
line_text t words n =
    decimal n ++ codes " " ++ (names_of t.checked.grammar).class_name (node_class t n)
    ++ fields_text t words n (node_shows t n) ++ codes "\n"
