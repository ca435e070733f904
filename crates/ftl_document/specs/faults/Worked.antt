-- Documents as they are written, typed out by hand.
use Rattle.std.specs.Prelude.{ℕ, false, true, ℤ, pos, negsuc, [], ◌∷◌, codes}
use Rattle.ftl_grammar.specs.syntax.Trees as trees
use Rattle.ftl_grammar.specs.declared.syntax.rules.AttrKind.TheVariants as kinds
use Rattle.ftl_grammar.specs.declared.syntax.rules.Grammar.{Grammar}
use Rattle.ftl_meaning.specs.faults.Worked as written
use Rattle.ftl_document.specs.syntax.Written.{NameText, WrittenFields, WrittenNode, WrittenNodes, list_field}
use Rattle.ftl_document.specs.syntax.Written.{no_fields, no_nodes, node_and, node_field, number_field}

-- ---- documents of the stack grammar

-- a document of this class with these fields
abbrev pub document : NameText → WrittenFields → WrittenNode
document class fields = record { class = class; fields = fields }

-- `iw = W ih = H`
abbrev pub sizes : (w h : ℤ) → WrittenFields
sizes w h = number_field (codes "iw") w (number_field (codes "ih") h no_fields)

-- `kids = [ NODES ]`
abbrev pub kids : WrittenNodes → WrittenFields
kids nodes = list_field (codes "kids") nodes no_fields

-- `Sheet { body = CLASS { FIELDS } }`
abbrev pub sheet_of : (class : NameText) → WrittenFields → WrittenNode
sheet_of class fields = document (codes "Sheet") (node_field (codes "body") class fields no_fields)

-- `Word { iw = 20 ih = 10 } Word { iw = 30 ih = 15 }`
abbrev pub words : WrittenNodes
words = node_and (codes "Word") (sizes (pos 20) (pos 10)) (node_and (codes "Word") (sizes (pos 30) (pos 15)) no_nodes)

-- `Sheet { body = Column { kids = [ Word { iw = 20 ih = 10 } Word { iw = 30 ih = 15 } ] } }`
abbrev pub two_words : WrittenNode
two_words = sheet_of (codes "Column") (kids words)

-- `Sheet { body = Column { kids = [ Column { kids = [ NODES ] } Row { } ] } }`
abbrev pub column_and_row : WrittenNodes → WrittenNode
column_and_row nodes =
    sheet_of (codes "Column")
    (kids (node_and (codes "Column") (kids nodes) (node_and (codes "Row") no_fields no_nodes)))

-- ---- documents of a grammar with inputs of interfaces and of classes, and with several children

-- `root Page; interface Page { input vw; } interface Box { input pad; } class Screen : Page { input dpi; local l; input
-- zoom; head : Box; kids : [Box]; foot : Box; self.l := 1; } class Dot : Box { input size; }`
abbrev pub screens : Grammar
screens =
    trees.grammar (codes "Page")
    (trees.interface (codes "Page") (trees.attr_decl kinds.Input (codes "vw") ∷ []) []
    ∷ trees.interface (codes "Box") (trees.attr_decl kinds.Input (codes "pad") ∷ []) [] ∷ [])
    (trees.class (codes "Screen") (codes "Page")
    (trees.attr_decl kinds.Input (codes "dpi") ∷ trees.attr_decl kinds.Local (codes "l")
    ∷ trees.attr_decl kinds.Input (codes "zoom") ∷ [])
    (trees.child (codes "head") (codes "Box") false ∷ trees.child (codes "kids") (codes "Box") true
    ∷ trees.child (codes "foot") (codes "Box") false ∷ [])
    (written.self_is (codes "l") (written.num 1) ∷ [])
    ∷ trees.class (codes "Dot") (codes "Box") (trees.attr_decl kinds.Input (codes "size") ∷ []) [] [] ∷ [])

-- `pad = P size = S`
abbrev pub dot_fields : (p s : ℤ) → WrittenFields
dot_fields p s = number_field (codes "pad") p (number_field (codes "size") s no_fields)

-- `NAME = Dot { pad = P size = S }`, and then later fields
abbrev pub dot_in : NameText → (p s : ℕ) → WrittenFields → WrittenFields
dot_in name p s later = node_field name (codes "Dot") (dot_fields (pos p) (pos s)) later

-- `Dot { pad = P size = S }`, and then later nodes
abbrev pub dot_and : (p s : ℕ) → WrittenNodes → WrittenNodes
dot_and p s later = node_and (codes "Dot") (dot_fields (pos p) (pos s)) later

-- `NAME = N`, and then later fields
abbrev pub number_in : NameText → (n : ℕ) → WrittenFields → WrittenFields
number_in name n later = number_field name (pos n) later

-- `NAME = [ NODES ]`, and then later fields
abbrev pub list_in : NameText → WrittenNodes → WrittenFields → WrittenFields
list_in name nodes later = list_field name nodes later

-- `kids = [ NODES ]`, and then later fields
abbrev pub kids_in : WrittenNodes → WrittenFields → WrittenFields
kids_in nodes later = list_field (codes "kids") nodes later

-- `vw = 1 dpi = 2 zoom = 3`, and then later fields
abbrev pub screen_inputs : WrittenFields → WrittenFields
screen_inputs later = number_in (codes "vw") 1 (number_in (codes "dpi") 2 (number_in (codes "zoom") 3 later))

-- `Screen { FIELDS }`
abbrev pub screen : WrittenFields → WrittenNode
screen fields = document (codes "Screen") fields

-- `Screen { vw = 1 dpi = 2 zoom = 3 head = Dot { pad = 4 size = -5 } kids = [ ] foot = Dot { pad = 6 size = 7 } }`
abbrev pub plain_screen : WrittenNode
plain_screen =
    screen (screen_inputs (node_field (codes "head") (codes "Dot") (dot_fields (pos 4) (negsuc 4))
    (kids_in no_nodes (dot_in (codes "foot") 6 7 no_fields))))

-- `Screen { zoom = 3 head = Dot { size = 5 pad = 4 } dpi = 2 kids = [ Dot { pad = 6 size = 7 } Dot { pad = 8 size = 9 }
-- ] vw = 1 foot = Dot { pad = 10 size = 11 } }`
abbrev pub mixed_screen : WrittenNode
mixed_screen =
    screen (number_in (codes "zoom") 3
    (node_field (codes "head") (codes "Dot") (number_in (codes "size") 5 (number_in (codes "pad") 4 no_fields))
    (number_in (codes "dpi") 2 (kids_in (dot_and 6 7 (dot_and 8 9 no_nodes))
    (number_in (codes "vw") 1 (dot_in (codes "foot") 10 11 no_fields))))))
