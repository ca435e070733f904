-- The lines that show the nodes of a page.
use Rattle.std.specs.Prelude.{ℕ, zero, suc, ◌+◌, List, [], ◌++◌, codes, Option, Some, None}
use Rattle.std.specs.Fmt.{decimal}
use Rattle.std.specs.List.{flat_map, range_with_len}
use Rattle.ftl_deps.specs.reads.Meant.{meant}
use Rattle.ftl_meaning.specs.faults.Checked.{attribute_at}
use Rattle.ftl_meaning.specs.grammars.GrammarOf.{names_of}
use Rattle.ftl_model.specs.layout.AttributeGrammar.{attributes_of}
use Rattle.ftl_model.specs.layout.Boxes.{value_text}
use Rattle.ftl_model.specs.layout.Path.{Path, down, node_at, top}
use Rattle.ftl_model.specs.layout.Tree.{size}
use Rattle.ftl_tree.specs.boxes.Shows.{node_shows}
use Rattle.maugzeris.specs.pages.PageState.{PageState, class_on, tree_on, value_on}
use Rattle.maugzeris.specs.pages.Places.{child_name_on, kid_on}
use Rattle.ftl_showing.specs.declared.lines.fields.Fields.{Fields}
use Rattle.ftl_showing.specs.declared.lines.fields.Fields.TheVariants.{Shown, All}

-- ---- where a node stands

-- how many nodes stand above a node
abbrev pub depth_of : Path → ℕ
depth_of top = 0
depth_of (down child kid above) = depth_of above + 1

-- the same of a node by its number
abbrev pub depth_on : PageState → (node : ℕ) → ℕ
depth_on p n = depth_of (node_at p.tree n)

-- two spaces for each node above
abbrev pub indentation : (depth : ℕ) → List ℕ
indentation zero = []
indentation (suc depth) = indentation depth ++ codes "  "

-- a space and the kid's number, where it is one of a list
abbrev pub kid_text : Option ℕ → List ℕ
kid_text None = []
kid_text (Some kid) = codes " " ++ decimal kid

-- a space and the child's name, and which of its kids the node is
abbrev pub place_text : (child : Option (List ℕ)) → (kid : Option ℕ) → List ℕ
place_text None kid = []
place_text (Some name) kid = codes " " ++ name ++ kid_text kid

-- ---- what it has

-- the attributes that are asked for: those that the node shows, or all that it has
abbrev pub attributes_shown : Fields → PageState → (node : ℕ) → List ℕ
attributes_shown Shown p n = node_shows (tree_on p) n
attributes_shown All p n = attributes_of (meant p.checked) (class_on p n)

-- a space, the name, `=` and the value of an attribute of a node: a field as the boxes have it
abbrev pub field_on : PageState → (node attribute : ℕ) → List ℕ
field_on p n a =
    codes " " ++ (attribute_at p.checked.grammar a).decl.name ++ codes "=" ++ value_text (value_on p n a)

-- ---- the lines

-- the number of a node, its class, and where it stands
abbrev pub head_text : PageState → (node : ℕ) → List ℕ
head_text p n =
    decimal n ++ codes " " ++ (names_of p.checked.grammar).class_name (class_on p n)
    ++ place_text (child_name_on p n) (kid_on p n)

-- the line of a node without its indentation and without the line feed
abbrev pub node_text : Fields → PageState → (node : ℕ) → List ℕ
node_text fields p n = head_text p n ++ flat_map (field_on p n) (attributes_shown fields p n)

-- the line of a node in a tree
abbrev pub tree_line : Fields → PageState → (node : ℕ) → List ℕ
tree_line fields p n = indentation (depth_on p n) ++ node_text fields p n ++ codes "\n"

-- the lines of all nodes, in preorder
abbrev pub tree_text : Fields → PageState → List ℕ
tree_text fields p = flat_map (tree_line fields p) (range_with_len 0 (size p.tree))
