-- The words of cells, in one row or in parts.
use Rattle.std.specs.Prelude.{◌≡◌, ℕ, List, length, Option, None, Some}
use Rattle.ftl_lots.specs.declared.words.cells.CellWords.TheInside.{Inside}
use Rattle.ftl_lots.specs.words.Parts.{IsCut, Part, all_words}

-- those of the row, where there is no size of parts, or else those of the parts
abbrev pub words_by : Option ℕ → (row : List ℕ) → (parts : List Part) → List ℕ
words_by None row parts = row
words_by (Some size) row parts = all_words parts

-- the parts are cut by their size, and the row has room for all their words
abbrev pub IsLaidOut : Option ℕ → (row : List ℕ) → (parts : List Part) → Type 0
IsLaidOut None row parts = Unit {0}
IsLaidOut (Some size) row parts = IsCut size parts × (length row ≡ length (all_words parts))

abbrev pub words_inside : Inside → List ℕ
words_inside c = words_by c.size c.row.items c.parts.items

abbrev pub AreCellWords : Inside → Type 0
AreCellWords c = IsLaidOut c.size c.row.items c.parts.items
