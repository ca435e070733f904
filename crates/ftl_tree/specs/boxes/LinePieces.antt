-- What is written of names, ready to be put between numbers.
use Rattle.std.specs.Prelude.{◌≡◌, ℕ, ◌+◌, [], ◌++◌, List, codes, map, slice_index_or}
use Rattle.std.specs.List.{sum_by}
use Rattle.ftl_grammar.specs.declared.syntax.rules.Grammar.{Grammar}
use Rattle.ftl_meaning.specs.faults.Checked.{all_attributes}
use Rattle.ftl_tree.specs.boxes.PieceRoom.{field_room}
use Rattle.ftl_meaning.specs.grammars.GrammarOf.{names_of}
use Rattle.ftl_tree.specs.trees.CheckedTree.{CheckedTree}
use Rattle.ftl_tree.specs.boxes.Shows.{node_class, node_shows, shown_rows}
use Rattle.ftl_tree.specs.declared.boxes.pieces.Pieces.{Pieces}

-- a space and the name of each class
abbrev pub class_pieces : Grammar → List (List ℕ)
class_pieces g = map (λ k. codes " " ++ k.name) g.classes

-- a space, the name and `=` of each attribute
abbrev pub attribute_pieces : Grammar → List (List ℕ)
attribute_pieces g = map (λ a. codes " " ++ a.decl.name ++ codes "=") (all_attributes g)

-- the room that some of these pieces take together
abbrev pub row_room : (pieces : List (List ℕ)) → (row : List ℕ) → ℕ
row_room pieces = sum_by (λ a. field_room (slice_index_or pieces a []))

-- the room that the attributes take which each interface shows
abbrev pub row_rooms : Grammar → List ℕ
row_rooms g = map (row_room (attribute_pieces g)) (shown_rows g)

-- these are the pieces of this grammar, and what its interfaces show
pub record ArePieces (g : Grammar) (p : Pieces) : Type 0 where
  pub shown : p.shown ≡ shown_rows g
  pub rooms : p.rooms ≡ row_rooms g
  pub classes : p.classes ≡ class_pieces g
  pub attributes : p.attributes ≡ attribute_pieces g

-- the room that the line of a node takes at most, its number and its end counted with the piece of its class
abbrev pub line_room : CheckedTree → (node : ℕ) → ℕ
line_room t n =
    field_room (codes " " ++ (names_of t.checked.grammar).class_name (node_class t n))
    + row_room (attribute_pieces t.checked.grammar) (node_shows t n)
