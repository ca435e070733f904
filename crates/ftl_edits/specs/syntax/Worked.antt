-- Worked texts with their tokens, typed by hand: some with the edits that they spell, and some that go wrong.
use Rattle.std.specs.Prelude.{ℕ, pos, negsuc, List, [], ◌∷◌, codes}
use Rattle.ftl_tokens.specs.declared.scanner.kind.Kind.{Kind}
use Rattle.ftl_tokens.specs.declared.scanner.kind.Kind.TheVariants as kind
use Rattle.ftl_tokens.specs.declared.scanner.kind.Token.{Token}
use Rattle.ftl_tokens.specs.scanner.Tokenized.{Tokenized}
use Rattle.ftl_edits.specs.declared.syntax.written.WrittenEdit.{WrittenEdit}
use Rattle.ftl_edits.specs.syntax.Written.{written_edit}

-- a token from this byte to that one
abbrev pub token : Kind → (start end : ℕ) → Token
token kind start end = record { kind = kind; start = start; end = end }

-- a text with these tokens
abbrev pub text_with : List ℕ → List Token → Tokenized
text_with text tokens = record { text = text; tokens = tokens }

-- ---- texts that are edits

-- one edit
abbrev pub one_edit : Tokenized
one_edit =
    text_with (codes "2.iw = 50;")
    (token kind.Number 0 1 ∷ token kind.Dot 1 2 ∷ token kind.Name 2 4 ∷ token kind.Equals 5 6 ∷ token kind.Number 7 9
    ∷ token kind.Semicolon 9 10 ∷ [])

-- node 2 gets 50
abbrev pub edits_of_one : List WrittenEdit
edits_of_one = written_edit 2 (codes "iw") (pos 50) ∷ []

-- two edits of the same input, with a sign, a zero in front, and a zero with a sign
abbrev pub two_edits : Tokenized
two_edits =
    text_with (codes "10 . b=-07;\n10.b=-0;")
    (token kind.Number 0 2 ∷ token kind.Dot 3 4 ∷ token kind.Name 5 6 ∷ token kind.Equals 6 7 ∷ token kind.Minus 7 8
    ∷ token kind.Number 8 10 ∷ token kind.Semicolon 10 11
    ∷ token kind.Number 12 14 ∷ token kind.Dot 14 15 ∷ token kind.Name 15 16 ∷ token kind.Equals 16 17
    ∷ token kind.Minus 17 18 ∷ token kind.Number 18 19 ∷ token kind.Semicolon 19 20 ∷ [])

-- -7, and then 0
abbrev pub edits_of_two : List WrittenEdit
edits_of_two = written_edit 10 (codes "b") (negsuc 6) ∷ written_edit 10 (codes "b") (pos 0) ∷ []

-- a line feed alone
abbrev pub nothing : Tokenized
nothing = text_with (codes "\n") []

-- ---- texts that go wrong

-- a second sign
abbrev pub sign_twice : Tokenized
sign_twice =
    text_with (codes "1.a=--2;")
    (token kind.Number 0 1 ∷ token kind.Dot 1 2 ∷ token kind.Name 2 3 ∷ token kind.Equals 3 4 ∷ token kind.Minus 4 5
    ∷ token kind.Minus 5 6 ∷ token kind.Number 6 7 ∷ token kind.Semicolon 7 8 ∷ [])

-- the last mark is missing, and a space follows
abbrev pub without_end : Tokenized
without_end =
    text_with (codes "1.a = 2 ")
    (token kind.Number 0 1 ∷ token kind.Dot 1 2 ∷ token kind.Name 2 3 ∷ token kind.Equals 4 5
    ∷ token kind.Number 6 7 ∷ [])

-- a node by a name
abbrev pub named_node : Tokenized
named_node =
    text_with (codes " a.b=1;")
    (token kind.Name 1 2 ∷ token kind.Dot 2 3 ∷ token kind.Name 3 4 ∷ token kind.Equals 4 5 ∷ token kind.Number 5 6
    ∷ token kind.Semicolon 6 7 ∷ [])

-- a second mark after an edit
abbrev pub mark_twice : Tokenized
mark_twice =
    text_with (codes "1.a=2;;")
    (token kind.Number 0 1 ∷ token kind.Dot 1 2 ∷ token kind.Name 2 3 ∷ token kind.Equals 3 4 ∷ token kind.Number 4 5
    ∷ token kind.Semicolon 5 6 ∷ token kind.Semicolon 6 7 ∷ [])
