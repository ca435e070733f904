-- Trees whose inputs are all 0, and their rows.
use Rattle.std.specs.Prelude.{ℕ, List, [], ◌∷◌, map, ℤ, pos}
use Rattle.ftl_model.specs.layout.AttributeGrammar.{AttributeGrammar}
use Rattle.ftl_model.specs.layout.Tree.{Forest}
use Rattle.ftl_tree.specs.rows.Rows.{AreTreeRows}
use Rattle.ftl_tree.specs.declared.rows.row.NodeRow.{NodeRow}
use Rattle.ftl_model.specs.layout.WithInput.{with_inputs}

-- as many numbers, all 0
abbrev pub all_zero : (number : ℕ) → List ℤ → List ℤ
all_zero n numbers = map (λ z. pos 0) numbers

-- the tree with every input 0
abbrev pub bare : Forest → Forest
bare t = with_inputs all_zero 0 t

-- a row as that of the root, wherever it says that its node stands
abbrev pub root_row : NodeRow → NodeRow
root_row row = record { class = row.class; parent = 0; place = record { child = 0; kid = 0 } }

-- rows, the first as that of the root
abbrev pub rooted : List NodeRow → List NodeRow
rooted [] = []
rooted (row ∷ rows) = root_row row ∷ rows

-- the rows are those of this tree, which is one of the grammar and within the limits; parent and place of the first row
-- play no part
abbrev pub AreBareRows : AttributeGrammar → Forest → List NodeRow → Type 0
AreBareRows g t rows = AreTreeRows g t (rooted rows)
