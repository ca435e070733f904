-- The pieces of classes and attributes.
use Rattle.std.proofs.Common.{◌≡◌, ℕ, ◌<◌, false, List, [], ◌++◌, length, get_or, Contains, ◌∙◌, ap, subst, arith}
use Rattle.std.specs.Prelude.{codes}
use Rattle.std.proofs.lemmas.List.{get_or-map, length-map}
use Rattle.ftl_grammar.specs.syntax.Trees as trees
use Rattle.ftl_grammar.specs.declared.syntax.rules.AttrKind.TheVariants as kinds
use Rattle.ftl_grammar.specs.declared.syntax.rules.Class.{Class}
use Rattle.ftl_grammar.specs.declared.syntax.rules.Grammar.{Grammar}
use Rattle.ftl_meaning.specs.faults.Checked.{Declared, all_attributes, declared}
use Rattle.ftl_meaning.specs.faults.Numbering.{class_at}
use Rattle.ftl_meaning.specs.grammars.GrammarOf.{declaration_at, shown_attributes}
use Rattle.ftl_tree.specs.boxes.LinePieces.{attribute_pieces, class_pieces, row_room, row_rooms}
use Rattle.ftl_tree.specs.boxes.Shows.{shown_rows}
use Rattle.ftl_tree.proofs.boxes.ShownAmong.{length-rows, row_is, shown_at}

pub length-class_pieces : (g : Grammar) → length (class_pieces g) ≡ length g.classes
length-class_pieces g = length-map g.classes (λ (k : Class). codes " " ++ k.name)

pub length-attribute_pieces : (g : Grammar) → length (attribute_pieces g) ≡ length (all_attributes g)
length-attribute_pieces g = length-map (all_attributes g) (λ (a : Declared). codes " " ++ a.decl.name ++ codes "=")

pub class_piece_is : (g : Grammar) (k : ℕ) (d : List ℕ) → k < length g.classes
    → get_or (class_pieces g) k d ≡ codes " " ++ (class_at g k).name
class_piece_is g k d known =
    get_or-map (λ (k : Class). codes " " ++ k.name) g.classes k (trees.class [] [] [] [] []) d known

pub attribute_piece_is : (g : Grammar) (i a : ℕ) (d : List ℕ) → Contains (shown_attributes g i) a
    → get_or (attribute_pieces g) a d ≡ codes " " ++ (declaration_at g a).name ++ codes "="
attribute_piece_is g i a d there =
    let at = shown_at g i a there in
    get_or-map (λ (x : Declared). codes " " ++ x.decl.name ++ codes "=") (all_attributes g) a
    (declared false 0 (trees.attr_decl kinds.Inh [])) d at.known
    ∙ ap (λ (n : List ℕ). codes " " ++ n ++ codes "=") at.name

pub length-row_rooms : (g : Grammar) → length (row_rooms g) ≡ length g.interfaces
length-row_rooms g = length-map (shown_rows g) (row_room (attribute_pieces g)) ∙ length-rows g

pub row_room_is : (g : Grammar) (i d : ℕ) → i < length g.interfaces
    → get_or (row_rooms g) i d ≡ row_room (attribute_pieces g) (shown_attributes g i)
row_room_is g i d known =
    get_or-map (row_room (attribute_pieces g)) (shown_rows g) i [] d (omega (arith, known, length-rows g))
    ∙ ap (row_room (attribute_pieces g)) (row_is g i [] known)

-- each attribute of a row has a piece
pub piece_known : (g : Grammar) (i a : ℕ) (d : List ℕ) → i < length (shown_rows g)
    → Contains (get_or (shown_rows g) i d) a → a < length (attribute_pieces g)
piece_known g i a d within there =
    let known : i < length g.interfaces = omega (arith, within, length-rows g) in
    let at = (shown_at g i a (subst (λ row. Contains row a) (row_is g i d known) there)).known in
    omega (arith, at, length-attribute_pieces g)
