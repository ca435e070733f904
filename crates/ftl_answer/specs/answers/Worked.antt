-- The table of a sample of two pieces, typed by hand: words of 38 by 10 and 49 by 16 in a column in a column in a sheet.
use Rattle.std.specs.Prelude.{List, [], ◌∷◌, negsuc, pos}
use Rattle.ftl_model.specs.layout.Tree.{Forest, none}
use Rattle.ftl_model.specs.layout.Values.{Value, number, overflow}
use Rattle.ftl_model.specs.layout.Worked.{column_of, numbers, sheet_over, word_of_size}

-- its tree
abbrev pub two_pieces : Forest
two_pieces = sheet_over (column_of (column_of (word_of_size 38 10 (word_of_size 49 16 none)) none) none)

-- h of the sheet; x, y, w, h of both columns; x, y, w, h, iw, ih of each word
abbrev pub two_pieces_values : List Value
two_pieces_values =
    numbers (26 ∷ (0 ∷ (0 ∷ (49 ∷ (26 ∷ (0 ∷ (0 ∷ (49 ∷ (26 ∷ (0 ∷ (0 ∷ (38 ∷ (10 ∷ (38 ∷ (10 ∷ (0 ∷ (10 ∷ (49 ∷ (16 ∷ (49 ∷ (16 ∷ [])))))))))))))))))))))

-- the same where h of the sheet is Overflow
abbrev pub two_pieces_too_high : List Value
two_pieces_too_high =
    overflow
    ∷ numbers (0 ∷ 0 ∷ 49 ∷ 26 ∷ 0 ∷ 0 ∷ 49 ∷ 26 ∷ 0 ∷ 0 ∷ 38 ∷ 10 ∷ 38 ∷ 10 ∷ 0 ∷ 10 ∷ 49 ∷ 16 ∷ 49 ∷ 16 ∷ [])

-- 5, Overflow, -7 and Overflow
abbrev pub two_overflows : List Value
two_overflows = number (pos 5) ∷ (overflow ∷ (number (negsuc 6) ∷ (overflow ∷ [])))
