-- Worked pages of the stack grammar, written out by hand, to hold the definitions against.
use Rattle.std.specs.Prelude.{◌≡◌, ℕ, List, [], ◌∷◌, ◌++◌, pos, negsuc, map, length}
use Rattle.std.specs.List.{AllByRecursion}
use Rattle.ftl_model.specs.layout.Values.{Value, number, overflow}
use Rattle.ftl_model.specs.layout.Tree.{Forest, none, tree}
use Rattle.ftl_model.specs.layout.AttributeGrammar.{AttributeGrammar}
use Rattle.ftl_model.specs.layout.Solves.{equation_value}
use Rattle.ftl_model.specs.layout.Table.{instances, instance_count, value_in}
use Rattle.ftl_model.specs.layout.Stack.{stack, sheet, column, word, only_child}

-- there is a value for each instance, and the equation of each holds
abbrev pub EachHoldsIn : AttributeGrammar → Forest → List Value → Type 0
EachHoldsIn g t values =
    let s = value_in g t values in
    (length values ≡ instance_count g t)
    × AllByRecursion (λ i. s i ≡ equation_value g t s (g.sort i.attribute) i.node i.attribute) (instances g t)

-- the same of the stack grammar
abbrev pub EachHolds : Forest → List Value → Type 0
EachHolds t values = EachHoldsIn stack t values

-- a word of this size, before the trees beside it
abbrev pub word_of_size : ℕ → ℕ → Forest → Forest
word_of_size w h beside = tree word only_child (pos w ∷ (pos h ∷ [])) none beside

-- a sheet with this body
abbrev pub sheet_over : Forest → Forest
sheet_over body = tree sheet 0 [] body none

-- a column with these kids, before the trees beside it
abbrev pub column_of : Forest → Forest → Forest
column_of kids beside = tree column only_child [] kids beside

-- these numbers as values
abbrev pub numbers : List ℕ → List Value
numbers ns = map (λ n. number (pos n)) ns

-- a sheet with a column of two words, 20 by 10 and 30 by 15
abbrev pub two_words : Forest
two_words = sheet_over (column_of (word_of_size 20 10 (word_of_size 30 15 none)) none)

-- h of the sheet; x, y, w, h of the column; x, y, w, h, iw, ih of each word
abbrev pub two_words_values : List Value
two_words_values =
    numbers (25 ∷ (0 ∷ (0
    ∷ (30 ∷ (25 ∷ (0 ∷ (0 ∷ (20 ∷ (10 ∷ (20 ∷ (10 ∷ (0 ∷ (10 ∷ (30 ∷ (15 ∷ (30 ∷ (15 ∷ [])))))))))))))))))

-- a column without boxes
abbrev pub empty_column : Forest
empty_column = sheet_over (column_of none none)

-- heights of 1 and 2147483647
abbrev pub tall_words : Forest
tall_words = sheet_over (column_of (word_of_size 1 1 (word_of_size 1 2147483647 none)) none)

-- the heights of the sheet and of the column overflow
abbrev pub tall_words_values : List Value
tall_words_values =
    overflow ∷ (number (pos 0) ∷ (number (pos 0) ∷ (number (pos 1) ∷ (overflow
    ∷ numbers (0 ∷ (0 ∷ (1 ∷ (1 ∷ (1 ∷ (1 ∷ (0 ∷ (1 ∷ (1 ∷ (2147483647 ∷ (1 ∷ (2147483647 ∷ []))))))))))))))))

-- a column of a column (words of 5 by 1 and 9 by 2), a word of 3 by 4, and a column (a word of 2 by 8)
abbrev pub nested_columns : Forest
nested_columns =
    sheet_over
    (column_of
    (column_of (word_of_size 5 1 (word_of_size 9 2 none)) (word_of_size 3 4 (column_of (word_of_size 2 8 none) none)))
    none)

-- node by node: the sheet, the column, the first column below it with two words, the word, the last column with its
-- word
abbrev pub nested_columns_values : List Value
nested_columns_values =
    numbers (15 ∷ []) ++ numbers (0 ∷ 0 ∷ 9 ∷ 15 ∷ [])
    ++ numbers (0 ∷ 0 ∷ 9 ∷ 3 ∷ []) ++ numbers (0 ∷ 0 ∷ 5 ∷ 1 ∷ 5 ∷ 1 ∷ []) ++ numbers (0 ∷ 1 ∷ 9 ∷ 2 ∷ 9 ∷ 2 ∷ [])
    ++ numbers (0 ∷ 3 ∷ 3 ∷ 4 ∷ 3 ∷ 4 ∷ [])
    ++ numbers (0 ∷ 7 ∷ 2 ∷ 8 ∷ []) ++ numbers (0 ∷ 7 ∷ 2 ∷ 8 ∷ 2 ∷ 8 ∷ [])

-- two heights of 2147483647, and then one of 5
abbrev pub greatest_words : Forest
greatest_words =
    sheet_over (column_of (word_of_size 1 2147483647 (word_of_size 1 2147483647 (word_of_size 1 5 none))) none)

-- the third word stands at more than the greatest number
abbrev pub greatest_words_values : List Value
greatest_words_values =
    overflow ∷ numbers (0 ∷ 0 ∷ 1 ∷ []) ++ (overflow ∷ [])
    ++ numbers (0 ∷ 0 ∷ 1 ∷ 2147483647 ∷ 1 ∷ 2147483647 ∷ [])
    ++ numbers (0 ∷ 2147483647 ∷ 1 ∷ 2147483647 ∷ 1 ∷ 2147483647 ∷ [])
    ++ (number (pos 0) ∷ overflow ∷ numbers (1 ∷ 5 ∷ 1 ∷ 5 ∷ []))

-- the heights of tall words on a wide page add up
abbrev pub wide_words_values : List Value
wide_words_values =
    numbers
    (2147483648 ∷ 0 ∷ 0 ∷ 1 ∷ 2147483648 ∷ 0 ∷ 0 ∷ 1 ∷ 1 ∷ 1 ∷ 1 ∷ 0 ∷ 1 ∷ 1 ∷ 2147483647 ∷ 1 ∷ 2147483647 ∷ [])

-- two words of the greatest height
abbrev pub highest_words : Forest
highest_words = sheet_over (column_of (word_of_size 1 2147483647 (word_of_size 1 2147483647 none)) none)

-- node by node: the sheet, the column, and its two words
abbrev pub highest_words_values : List Value
highest_words_values =
    (overflow ∷ numbers (0 ∷ 0 ∷ 1 ∷ [])) ++ (overflow ∷ [])
    ++ numbers (0 ∷ 0 ∷ 1 ∷ 2147483647 ∷ 1 ∷ 2147483647 ∷ [])
    ++ numbers (0 ∷ 2147483647 ∷ 1 ∷ 2147483647 ∷ 1 ∷ 2147483647 ∷ [])

-- the same on a wide page
abbrev pub highest_wide_values : List Value
highest_wide_values =
    numbers (4294967294 ∷ 0 ∷ 0 ∷ 1 ∷ 4294967294 ∷ [])
    ++ numbers (0 ∷ 0 ∷ 1 ∷ 2147483647 ∷ 1 ∷ 2147483647 ∷ [])
    ++ numbers (0 ∷ 2147483647 ∷ 1 ∷ 2147483647 ∷ 1 ∷ 2147483647 ∷ [])

-- a word of the greatest height of a wide page, and one more pixel below it
abbrev pub widest_words : Forest
widest_words = sheet_over (column_of (word_of_size 1 140737488355327 (word_of_size 1 1 none)) none)

-- node by node
abbrev pub widest_words_values : List Value
widest_words_values =
    (overflow ∷ numbers (0 ∷ 0 ∷ 1 ∷ [])) ++ (overflow ∷ [])
    ++ numbers (0 ∷ 0 ∷ 1 ∷ 140737488355327 ∷ 1 ∷ 140737488355327 ∷ [])
    ++ numbers (0 ∷ 140737488355327 ∷ 1 ∷ 1 ∷ 1 ∷ 1 ∷ [])

-- no trees of the stack grammar: an input below the least one, no body, two bodies, a sheet as a body
abbrev pub too_low : Forest
too_low = sheet_over (tree word only_child (negsuc 2147483647 ∷ pos 1 ∷ []) none none)

abbrev pub no_body : Forest
no_body = sheet_over none

abbrev pub two_bodies : Forest
two_bodies = sheet_over (word_of_size 1 1 (word_of_size 1 1 none))

abbrev pub sheet_in_sheet : Forest
sheet_in_sheet = sheet_over (sheet_over (word_of_size 1 1 none))
