-- What the front of a text is as the code sees it, with lengths in bytes.
use Rattle.std.specs.Prelude.{◌≡◌, ℕ, ◌<◌, ◌≤◌, true, false, List, [], ◌∷◌, length, take}
use Rattle.std.specs.Char.{is_ascii_digit}
use Rattle.ftl_tokens.specs.declared.scanner.kind.Kind.TheVariants.{Number}
use Rattle.ftl_tokens.specs.declared.scanner.piece.Piece.{Piece}
use Rattle.ftl_tokens.specs.declared.scanner.piece.Piece.TheVariants.{Gap, Token, LargeNumber, Nothing}
use Rattle.ftl_tokens.specs.scanner.Kinds.{begins_word}
use Rattle.ftl_tokens.specs.scanner.Scan.{byte_length, Front, gap, token, nothing, is_too_large, front_of, token_front}
use Rattle.ftl_tokens.specs.scanner.Scan.{longest_token}

-- the first n of these characters, one or more, take len bytes
pub record Spans (cs : List ℕ) (n len : ℕ) : Type 0 where
  pub some : 0 < n
  pub within : n ≤ length cs
  pub bytes : len ≡ byte_length (take n cs)

-- the code's piece is this front of these characters, where numbers are at most `greatest`
abbrev pub IsPieceOf : ℕ → Front → List ℕ → Piece → Type 0
IsPieceOf greatest (gap n) cs (Gap len) = Spans cs n len
IsPieceOf greatest (token kind n) cs (Token found len) =
    (found ≡ kind) × (is_too_large greatest kind (take n cs) ≡ false) × Spans cs n len
IsPieceOf greatest (token kind n) cs LargeNumber = is_too_large greatest kind (take n cs) ≡ true
IsPieceOf greatest nothing cs Nothing = Unit {0}
IsPieceOf greatest _ cs _ = ⊥

-- the code's piece for a number that is written so long
abbrev pub IsNumberPiece : ℕ → ℕ → ℕ → Piece → Type 0
IsNumberPiece greatest number length LargeNumber = greatest < number
IsNumberPiece greatest number length (Token Number len) = (number ≤ greatest) × (len ≡ length)
IsNumberPiece greatest number length _ = ⊥

-- the code's piece is the front of these characters
abbrev pub IsFrontPiece : ℕ → List ℕ → Piece → Type 0
IsFrontPiece greatest cs piece = IsPieceOf greatest (front_of cs) cs piece

-- the code's piece is the longest token there, or nothing
abbrev pub IsTokenPiece : ℕ → List ℕ → Piece → Type 0
IsTokenPiece greatest cs piece = IsPieceOf greatest (token_front cs (longest_token cs)) cs piece

-- the first character may begin a word
abbrev pub StartsWord : List ℕ → Type 0
StartsWord [] = ⊥
StartsWord (c ∷ cs) = begins_word c ≡ true

-- the first character is an ASCII digit
abbrev pub StartsNumber : List ℕ → Type 0
StartsNumber [] = ⊥
StartsNumber (c ∷ cs) = is_ascii_digit c ≡ true

-- the first character, if there is one, is neither
abbrev pub StartsOther : List ℕ → Type 0
StartsOther [] = Unit {0}
StartsOther (c ∷ cs) = (begins_word c ≡ false) × (is_ascii_digit c ≡ false)

-- the first character is not ASCII
abbrev pub StartsFar : List ℕ → Type 0
StartsFar [] = ⊥
StartsFar (c ∷ cs) = 128 ≤ c
