-- What the first byte of a text tells of its front.
use Rattle.std.proofs.Common.{◌≡◌, ℕ, ◌<◌, Bool, eqb, true, false, List, [], ◌∷◌, length, get_or, drop, sym}
use Rattle.std.proofs.Common.{◌∙◌, refl, subst, arith}
use Rattle.std.specs.List.{take_while}
use Rattle.std.specs.Char.{is_ascii_digit}
use Rattle.std.specs.Str.{chars, IsUtf8}
use Rattle.std.proofs.lemmas.Bool.{and_parts, false≢true, lt-ltb, ltb-true, ne_eqb, or_left}
use Rattle.std.proofs.lemmas.Bool.Decides.{nat_tests}
use Rattle.unicode_ident.specs.Ident.{is_xid_start}
use Rattle.ftl_tokens.specs.declared.scanner.piece.Piece.{Piece}
use Rattle.ftl_tokens.specs.declared.scanner.piece.Piece.TheVariants.{Gap}
use Rattle.ftl_tokens.specs.declared.scanner.run.Run.TheVariants.{White, Digits}
use Rattle.ftl_tokens.specs.scanner.Piece.{IsFrontPiece, IsTokenPiece, StartsWord, StartsNumber, StartsOther, StartsFar}
use Rattle.ftl_tokens.specs.scanner.Run.{byte_goes_on, byte_begins_word}
use Rattle.ftl_tokens.specs.scanner.Scan.{is_white_space, stays_in_line, byte_length}
use Rattle.ftl_tokens.proofs.scanner.KindLemmas.{and_second, or_false}
use Rattle.ftl_tokens.proofs.scanner.PieceLemmas.{white_space_at, comment_at, other_at}
use Rattle.ftl_tokens.proofs.scanner.RunLemmas.{first_ascii}

-- a text that is not empty has a byte
pub some_bytes : (text : List ℕ) (empty : Bool) → empty ≡ (eqb (length text) 0) → empty ≡ false → 0 < length text
some_bytes [] empty is fails = absurd (false≢true (sym fails ∙ is))
some_bytes (b ∷ bs) empty is fails = omega arith

module _ (text bytes : List ℕ) (utf8 : IsUtf8 text) (same : bytes ≡ text) (some : 0 < length text) where
  pub first_word : byte_begins_word (get_or bytes 0 0) ≡ true → StartsWord (chars text)
  first_word begins =
      let parts = and_parts _ _ begins in
      subst StartsWord (sym (first_ascii text bytes utf8 same some (ltb-true _ 128 parts.0))) parts.1

  pub first_number : byte_goes_on Digits (get_or bytes 0 0) ≡ true → StartsNumber (chars text)
  first_number digit =
      let parts = and_parts _ _ digit in
      subst StartsNumber (sym (first_ascii text bytes utf8 same some (ltb-true _ 128 parts.0))) parts.1

  pub first_white : (greatest len : ℕ) → byte_goes_on White (get_or bytes 0 0) ≡ true
      → len ≡ byte_length (take_while is_white_space (chars text)) → IsFrontPiece greatest (chars text) (Gap len)
  first_white greatest len white len_is =
      let parts = and_parts _ _ white in
      white_space_at greatest (chars text) (get_or bytes 0 0) (chars (drop 1 text)) len
      (first_ascii text bytes utf8 same some (ltb-true _ 128 parts.0)) parts.1 len_is

  module _ (ascii : get_or bytes 0 0 < 128) where
    pub first_other : byte_begins_word (get_or bytes 0 0) ≡ false → byte_goes_on Digits (get_or bytes 0 0) ≡ false
        → StartsOther (chars text)
    first_other no_word no_digit =
        subst StartsOther (sym (first_ascii text bytes utf8 same some ascii))
        (and_second _ _ (lt-ltb _ 128 ascii) no_word, and_second _ _ (lt-ltb _ 128 ascii) no_digit)

    pub first_comment : (greatest len : ℕ) → byte_goes_on White (get_or bytes 0 0) ≡ false → get_or bytes 0 0 ≡ 35
        → len ≡ byte_length (take_while stays_in_line (chars text)) → IsFrontPiece greatest (chars text) (Gap len)
    first_comment greatest len no_white hash len_is =
        comment_at greatest (chars text) (get_or bytes 0 0) (chars (drop 1 text)) len (first_ascii text bytes utf8 same some ascii)
        (and_second _ _ (lt-ltb _ 128 ascii) no_white) hash len_is

    pub first_token : (greatest : ℕ) (piece : Piece) → byte_goes_on White (get_or bytes 0 0) ≡ false
        → (get_or bytes 0 0 ≡ 35 → ⊥) → IsTokenPiece greatest (chars text) piece → IsFrontPiece greatest (chars text) piece
    first_token greatest piece no_white no_hash is =
        other_at greatest (chars text) (get_or bytes 0 0) (chars (drop 1 text)) piece (first_ascii text bytes utf8 same some ascii)
        (and_second _ _ (lt-ltb _ 128 ascii) no_white) no_hash is

-- a character beyond ASCII is neither white space nor `#`
pub far_token : (cs : List ℕ) (greatest : ℕ) (piece : Piece) → StartsFar cs → IsTokenPiece greatest cs piece
    → IsFrontPiece greatest cs piece
far_token [] greatest piece far is = absurd far
far_token (c ∷ cs) greatest piece far is =
    let no_white : is_white_space c ≡ false = grind (arith, nat_tests) in
    other_at greatest (c ∷ cs) c cs piece refl no_white (λ hash. absurd (omega (arith, far, hash))) is

-- nor a digit nor `_`
pub far_other : (cs more : List ℕ) (c : ℕ) → StartsFar cs → cs ≡ c ∷ more → is_xid_start c ≡ false → StartsOther cs
far_other cs more c far split no_start =
    let beyond = subst StartsFar split far in
    let no_digit : is_ascii_digit c ≡ false = grind (arith, nat_tests) in
    subst StartsOther (sym split) (or_false _ _ no_start ∙ ne_eqb c 95 (λ is. absurd (omega (arith, beyond, is))), no_digit)

pub far_word : (cs more : List ℕ) (c : ℕ) → cs ≡ c ∷ more → is_xid_start c ≡ true → StartsWord cs
far_word cs more c split starts = subst StartsWord (sym split) (or_left _ _ starts)
