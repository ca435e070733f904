-- The lines of a text and their words, as bytes.
use Rattle.std.specs.Prelude.{ℕ, Bool, true, false, not, ◌==◌, List, [], ◌∷◌, Option, Some, None, if◌then◌else◌}
use Rattle.std.specs.List.{find}
use Rattle.ftl_tokens.specs.scanner.Scan.{is_white_space}

-- one element more at the front of the first list
abbrev pub longer_first : ℕ → List (List ℕ) → List (List ℕ)
longer_first b [] = (b ∷ []) ∷ []
longer_first b (first ∷ rest) = (b ∷ first) ∷ rest

-- the lines, each with the line feed (10) that ends it; the last may have none
unfoldable pub lines_of : List ℕ → List (List ℕ)
lines_of [] = []
lines_of (b ∷ bs) = if b == 10 then (b ∷ []) ∷ lines_of bs else longer_first b (lines_of bs)

-- no word goes on here
abbrev pub ends_word : List ℕ → Bool
ends_word [] = true
ends_word (b ∷ bs) = is_white_space b

-- the words of a line: its runs of other bytes than space, tab, carriage return and the line feed at the end
unfoldable pub words_of : List ℕ → List (List ℕ)
words_of [] = []
words_of (b ∷ bs) =
    if is_white_space b then words_of bs
    else (if ends_word bs then (b ∷ []) ∷ words_of bs
    else longer_first b (words_of bs))

-- a line that begins with `%` (37) is a heading
abbrev pub is_heading : List ℕ → Bool
is_heading [] = false
is_heading (b ∷ bs) = b == 37

-- and each other line is one of a body
abbrev pub is_body_line : List ℕ → Bool
is_body_line line = not (is_heading line)

-- other than white space a line has nothing, or it begins with `#` (35)
abbrev pub is_blank_or_comment : Option ℕ → Bool
is_blank_or_comment None = true
is_blank_or_comment (Some b) = b == 35

-- a line that is neither blank nor a comment
abbrev pub is_stray : List ℕ → Bool
is_stray line = not (is_blank_or_comment (find (λ b. not (is_white_space b)) line))
