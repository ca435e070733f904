-- Trees that written edits are tried on, and the edits, typed by hand.
use Rattle.std.specs.Prelude.{ℕ, ℤ, pos, negsuc, List, [], ◌∷◌, codes}
use Rattle.ftl_base.specs.declared.width.Width.TheVariants.{Narrow}
use Rattle.ftl_model.specs.layout.Tree.{Forest, none, tree}
use Rattle.ftl_grammar.specs.declared.syntax.rules.Grammar.{Grammar}
use Rattle.ftl_meaning.specs.faults.Worked as grammars
use Rattle.ftl_document.specs.faults.Worked as documents
use Rattle.ftl_tree.specs.trees.CheckedTree.{CheckedTree}
use Rattle.ftl_edits.specs.declared.syntax.written.WrittenEdit.{WrittenEdit}
use Rattle.ftl_edits.specs.syntax.Written.{written_edit}
use Rattle.ftl_edits.specs.declared.meaning.types.Edit.{Edit}

-- the edit of these numbers
abbrev pub edit : (node attribute : ℕ) → (value : ℤ) → Edit
edit node attribute value = record { node = node; attr = attribute; value = value }

-- a tree of this grammar
abbrev pub tree_in : Grammar → Forest → CheckedTree
tree_in g t = record { checked = record { grammar = g; width = Narrow }; tree = t }

-- `Sheet { body = Column { kids = [ Word { iw = 20 ih = 10 } Word { iw = 30 ih = 15 } ] } }`
abbrev pub two_words : CheckedTree
two_words =
    tree_in grammars.stack
    (tree 0 0 []
    (tree 1 0 []
    (tree 2 0 (pos 20 ∷ pos 10 ∷ []) none (tree 2 0 (pos 30 ∷ pos 15 ∷ []) none none))
    none)
    none)

-- `Screen { vw = 1 dpi = 2 zoom = 3 head = Dot { pad = 4 size = -5 } kids = [ ] foot = Dot { pad = 6 size = 7 } }`
abbrev pub plain_screen : CheckedTree
plain_screen =
    tree_in documents.screens
    (tree 0 0 (pos 1 ∷ pos 2 ∷ pos 3 ∷ [])
    (tree 1 0 (pos 4 ∷ negsuc 4 ∷ []) none (tree 1 2 (pos 6 ∷ pos 7 ∷ []) none none))
    none)

-- `2.iw = 50;`
abbrev pub wider_word : WrittenEdit
wider_word = written_edit 2 (codes "iw") (pos 50)

-- `3.w = 1;`, where `w` is computed
abbrev pub computed_width : WrittenEdit
computed_width = written_edit 3 (codes "w") (pos 1)

-- `1.kids = 1;`, where `kids` is a child
abbrev pub child_number : WrittenEdit
child_number = written_edit 1 (codes "kids") (pos 1)

-- `1.iw = 1;`, where `iw` is an input of another class
abbrev pub column_width : WrittenEdit
column_width = written_edit 1 (codes "iw") (pos 1)

-- `4.iw = 1;`
abbrev pub fifth_node : WrittenEdit
fifth_node = written_edit 4 (codes "iw") (pos 1)

-- `4294967298.iw = 1;`
abbrev pub far_node : WrittenEdit
far_node = written_edit 4294967298 (codes "iw") (pos 1)

-- `0.zoom = -9; 2.pad = 8; 2.size = 0; 0.vw = 5;`: inputs of classes and of interfaces
abbrev pub screen_edits : List WrittenEdit
screen_edits =
    written_edit 0 (codes "zoom") (negsuc 8) ∷ written_edit 2 (codes "pad") (pos 8)
    ∷ written_edit 2 (codes "size") (pos 0) ∷ written_edit 0 (codes "vw") (pos 5) ∷ []
