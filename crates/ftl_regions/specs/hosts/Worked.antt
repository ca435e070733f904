-- Written grammars of rows of cells, with the regions that were worked out by hand. They have inputs alone, and so no
-- rules.
-- root Page; interface Page { } interface Line { input h; } interface Slot { input w; }
-- class Sheet : Page { rows : [Line]; } class Row : Line { input gap; cells : [Slot]; } class Cell : Slot { input t; }
use Rattle.std.specs.Prelude.{◌≡◌, ◌⊎◌, ◌↔◌, ℕ, true, List, [], ◌∷◌, codes}
use Rattle.ftl_grammar.specs.syntax.Trees as trees
use Rattle.ftl_grammar.specs.syntax.Trees.{NameText}
use Rattle.ftl_grammar.specs.declared.syntax.rules.AttrDecl.{AttrDecl}
use Rattle.ftl_grammar.specs.declared.syntax.rules.AttrKind.TheVariants as kinds
use Rattle.ftl_grammar.specs.declared.syntax.rules.Class.{Class}
use Rattle.ftl_grammar.specs.declared.syntax.rules.Grammar.{Grammar}
use Rattle.ftl_grammar.specs.declared.syntax.rules.Interface.{Interface}
use Rattle.ftl_meaning.specs.grammars.GrammarOf.{grammar_of}
use Rattle.ftl_model.specs.layout.AttributeGrammar.{AttributeGrammar}
use Rattle.ftl_model.specs.layout.Values.{narrow}
use Rattle.ftl_nests.specs.Region.{InRegion, OfRegion}

-- an interface with these inputs
abbrev pub with_inputs : NameText → List AttrDecl → Interface
with_inputs name inputs = trees.interface name inputs []

-- an input
abbrev pub input : NameText → AttrDecl
input name = trees.attr_decl kinds.Input name

-- interfaces Page 0, Line 1, Slot 2; of their attributes Line.h is 0, Slot.w is 1
abbrev pub interfaces : List Interface
interfaces =
    with_inputs (codes "Page") [] ∷ with_inputs (codes "Line") (input (codes "h") ∷ [])
    ∷ with_inputs (codes "Slot") (input (codes "w") ∷ []) ∷ []

-- a class with these inputs, and children of this interface
abbrev pub with_children : (name interface : NameText) → List AttrDecl → (of : NameText) → Class
with_children name interface inputs of =
    trees.class name interface inputs (trees.child (codes "below") of true ∷ []) []

-- class 0
abbrev pub sheet_of : NameText → Class
sheet_of below = with_children (codes "Sheet") (codes "Page") [] below

-- class 1, with attribute 2
abbrev pub row_of : NameText → Class
row_of below = with_children (codes "Row") (codes "Line") (input (codes "gap") ∷ []) below

-- class 2, with attribute 3
abbrev pub cell : Class
cell = trees.class (codes "Cell") (codes "Slot") (input (codes "t") ∷ []) [] []

-- a grammar of these three, by its root and what sheets and rows have
abbrev pub sheets : (root in_sheet in_row : NameText) → Grammar
sheets root in_sheet in_row =
    trees.grammar root interfaces (sheet_of in_sheet ∷ row_of in_row ∷ cell ∷ [])

-- rows of cells
abbrev pub rows : Grammar
rows = sheets (codes "Page") (codes "Line") (codes "Slot")

-- rows of rows
abbrev pub rows_in_rows : Grammar
rows_in_rows = sheets (codes "Page") (codes "Line") (codes "Line")

-- the root is a cell
abbrev pub cell_at_root : Grammar
cell_at_root = sheets (codes "Slot") (codes "Line") (codes "Slot")

-- cells in sheets, as in rows
abbrev pub cells_in_sheets : Grammar
cells_in_sheets = sheets (codes "Page") (codes "Slot") (codes "Slot")

-- the grammar with its names gone
abbrev pub numbered_of : Grammar → AttributeGrammar
numbered_of g = grammar_of narrow g

-- the host's region has this interface alone
abbrev pub HasOne : Grammar → (host interface : ℕ) → Type 0
HasOne g host only = (i : ℕ) → InRegion (numbered_of g) host i ↔ (i ≡ only)

-- or these two
abbrev pub HasTwo : Grammar → (host first second : ℕ) → Type 0
HasTwo g host first second = (i : ℕ) → InRegion (numbered_of g) host i ↔ ((i ≡ first) ⊎ (i ≡ second))

-- the host's region has these two attributes
abbrev pub HasTwoAttributes : Grammar → (host first second : ℕ) → Type 0
HasTwoAttributes g host first second =
    (a : ℕ) → OfRegion (numbered_of g) host a ↔ ((a ≡ first) ⊎ (a ≡ second))
