-- What the code finds at the front of a text is what stands there.
use Rattle.std.proofs.Common.{◌≡◌, ℕ, ◌+◌, ◌-◌, ◌<◌, ◌≤◌, Bool, true, false, cond, List, [], ◌∷◌, ◌++◌, length, take}
use Rattle.std.proofs.Common.{min, Option, Some, None, sym, refl, ap, ◌∙◌, subst, ⊎_elim, arith}
use Rattle.std.specs.Prelude.{encode_utf8_all, unwrap_or}
use Rattle.std.specs.List.{slice_range, list_all, prefix_len, take_while}
use Rattle.std.specs.Char.{is_ascii_digit, len_utf8}
use Rattle.std.specs.Str.{bytes_eq, chars, IsUtf8}
use Rattle.std.specs.Str.Parse.{digits_value}
use Rattle.std.proofs.lemmas.Bool.{and_parts, cond-false, cond-true, cases_Bool, false≢true, le-ltb, lt-ltb, eq-eqb}
use Rattle.std.proofs.lemmas.Bool.{ne_eqb}
use Rattle.std.proofs.lemmas.Bool.Decides.{nat_tests}
use Rattle.std.proofs.lemmas.Str.{encode_ascii}
use Rattle.unicode_ident.specs.Ident.{is_xid_continue}
use Rattle.ftl_tokens.specs.declared.scanner.kind.Kind.{Kind}
use Rattle.ftl_tokens.specs.declared.scanner.kind.Kind.TheVariants.{Name, Number}
use Rattle.ftl_tokens.specs.declared.scanner.piece.Piece.{Piece}
use Rattle.ftl_tokens.specs.declared.scanner.piece.Piece.TheVariants.{Gap, Token, LargeNumber, Nothing}
use Rattle.ftl_tokens.specs.scanner.Kinds.{reserved_words, marks, look_up, begins_word, kind_of_word, kind_of_mark}
use Rattle.ftl_tokens.specs.scanner.Scan.{is_white_space, stays_in_line, byte_length, token_if, token_front, longest_token}
use Rattle.ftl_tokens.specs.scanner.Scan.{front_of, is_too_large, last_passing}
use Rattle.ftl_tokens.specs.scanner.Piece.{Spans, IsPieceOf, IsNumberPiece, StartsWord, StartsNumber, StartsOther}
use Rattle.ftl_tokens.proofs.scanner.TextLemmas.{is_cut, byte_length-cons}
use Rattle.ftl_tokens.proofs.scanner.KindLemmas.{kind_of_word-encodes}
use Rattle.ftl_tokens.proofs.scanner.NumberLemmas.{is_number-digits}
use Rattle.ftl_tokens.proofs.scanner.FrontLemmas.{prefix_len-le, word_starts_run, digit_starts_run, kind_of-nil, word_front}
use Rattle.ftl_tokens.proofs.scanner.FrontLemmas.{number_front, run_is_number, mark_front-last, mark_front-long}
use Rattle.ftl_tokens.proofs.scanner.FrontLemmas.{mark_front-short}

-- ---- kinds that are no number

abbrev is_number_kind : Kind → Bool
is_number_kind Number = true
is_number_kind _ = false

abbrev have_no_number : List (List ℕ × Kind) → Bool
have_no_number [] = true
have_no_number (entry ∷ entries) = cond (is_number_kind entry.1) false (have_no_number entries)

abbrev is_other : Option Kind → Type 0
is_other None = Unit {0}
is_other (Some kind) = is_number_kind kind ≡ false

look_up-other : (text : List ℕ) (entries : List (List ℕ × Kind)) → have_no_number entries ≡ true
    → is_other (look_up text entries)
look_up-other text [] other = tt
look_up-other text (entry ∷ entries) other =
    ⊎_elim
    (λ number. absurd (false≢true (sym (cond-true (is_number_kind entry.1) false (have_no_number entries) number) ∙ other)))
    (λ this.
    let rest = look_up-other text entries (sym (cond-false (is_number_kind entry.1) false (have_no_number entries) this) ∙ other) in
    ⊎_elim
    (λ same. subst is_other (sym (cond-true _ _ _ same)) this)
    (λ differs. subst is_other (sym (cond-false _ _ _ differs)) rest)
    (cases_Bool (bytes_eq text entry.0)))
    (cases_Bool (is_number_kind entry.1))

other_name : (found : Option Kind) → is_other found → is_number_kind (unwrap_or found Name) ≡ false
other_name None other = refl
other_name (Some kind) other = other

-- `&text[..len]`
front_range : (text : List ℕ) (len : ℕ) → slice_range text 0 len ≡ take len text
front_range text len = let same : len - 0 ≡ len = omega arith in ap (λ k. take k text) same

-- digits are their own UTF-8
pub digits_are_bytes : (ds : List ℕ) → list_all is_ascii_digit ds ≡ true → encode_utf8_all ds ≡ ds
digits_are_bytes [] digits = refl
digits_are_bytes (d ∷ ds) digits =
    let parts = and_parts (is_ascii_digit d) (list_all is_ascii_digit ds) digits in
    let digit : is_ascii_digit d ≡ true = parts.0 in
    let ascii : d < 128 = grind (arith, nat_tests) in
    ap (λ l. l ++ encode_utf8_all ds) (encode_ascii d ascii) ∙ ap (λ l. d ∷ l) (digits_are_bytes ds parts.1)

-- the bytes of a number are its digits
pub number_bytes : (text : List ℕ) (len : ℕ) → IsUtf8 text → StartsNumber (chars text)
    → len ≡ byte_length (take_while is_ascii_digit (chars text))
    → slice_range text 0 len ≡ take_while is_ascii_digit (chars text)
number_bytes text len utf8 digit len_is =
    front_range text len
    ∙ ap (λ k. take k text) len_is
    ∙ (is_cut text (prefix_len is_ascii_digit (chars text)) utf8).front
    ∙ digits_are_bytes (take_while is_ascii_digit (chars text)) (is_number-digits (take_while is_ascii_digit (chars text)) (run_is_number (chars text) digit))

short_spans : (c : ℕ) (cs : List ℕ) (len : ℕ) → len ≡ len_utf8 c → Spans (c ∷ cs) 1 len
short_spans c cs len len_is = record { some = omega arith; within = omega arith; bytes = omega (arith, len_is, byte_length-cons c []) }

module _ (greatest : ℕ) where
  is_too_large-other : (kind : Kind) (text : List ℕ) → is_number_kind kind ≡ false → is_too_large greatest kind text ≡ false
  is_too_large-other Number text other = absurd (false≢true (sym other))
  is_too_large-other _ text other = refl

  -- a word is no number
  pub is_too_large-word : (word text : List ℕ) → is_too_large greatest (kind_of_word word) text ≡ false
  unfolding kind_of_word
  is_too_large-word word text = is_too_large-other _ text (other_name (look_up word reserved_words) (look_up-other word reserved_words refl))

  -- nor is a mark
  pub is_too_large-mark : (mark text : List ℕ) (kind : Kind) → kind_of_mark mark ≡ Some kind
      → is_too_large greatest kind text ≡ false
  unfolding kind_of_mark
  is_too_large-mark mark text kind found = is_too_large-other kind text (subst is_other found (look_up-other mark marks refl))

  -- ---- words and numbers

  pub word_piece_is : (text : List ℕ) (kind : Kind) (len : ℕ) → IsUtf8 text → StartsWord (chars text)
      → len ≡ byte_length (take_while is_xid_continue (chars text)) → kind ≡ kind_of_word (slice_range text 0 len)
      → IsPieceOf greatest (token_front (chars text) (longest_token (chars text))) (chars text) (Token kind len)
  word_piece_is text kind len utf8 word len_is kind_is =
      let n = prefix_len is_xid_continue (chars text) in
      let bytes : slice_range text 0 len ≡ encode_utf8_all (take n (chars text)) = front_range text len ∙ ap (λ k. take k text) len_is ∙ (is_cut text n utf8).front in
      subst (λ f. IsPieceOf greatest f (chars text) (Token kind len)) (sym (word_front (chars text) word)) (
        kind_is ∙ ap kind_of_word bytes ∙ kind_of_word-encodes (take n (chars text)),
        is_too_large-word (take n (chars text)) (take n (chars text)),
        record { some = word_starts_run (chars text) word; within = prefix_len-le is_xid_continue (chars text); bytes = len_is },
      )

  pub number_piece_is : (text : List ℕ) (len : ℕ) → StartsNumber (chars text)
      → len ≡ byte_length (take_while is_ascii_digit (chars text))
      → digits_value 10 (take_while is_ascii_digit (chars text)) ≤ greatest
      → IsPieceOf greatest (token_front (chars text) (longest_token (chars text))) (chars text) (Token Number len)
  number_piece_is text len digit len_is fits =
      subst (λ f. IsPieceOf greatest f (chars text) (Token Number len)) (sym (number_front (chars text) digit)) (
        refl,
        le-ltb _ _ fits,
        record { some = digit_starts_run (chars text) digit; within = prefix_len-le is_ascii_digit (chars text); bytes = len_is },
      )

  pub large_number_is : (text : List ℕ) → StartsNumber (chars text)
      → greatest < digits_value 10 (take_while is_ascii_digit (chars text))
      → IsPieceOf greatest (token_front (chars text) (longest_token (chars text))) (chars text) LargeNumber
  large_number_is text digit large =
      subst (λ f. IsPieceOf greatest f (chars text) LargeNumber) (sym (number_front (chars text) digit)) (lt-ltb _ _ large)

  -- the code's number, which is cut above the greatest, is that of the digits
  pub number_piece_by : (text : List ℕ) (number len : ℕ) (piece : Piece) → IsUtf8 text → StartsNumber (chars text)
      → len ≡ byte_length (take_while is_ascii_digit (chars text)) → number ≡ min (digits_value 10 (take len text)) (greatest + 1)
      → IsNumberPiece greatest number len piece
      → IsPieceOf greatest (token_front (chars text) (longest_token (chars text))) (chars text) piece
  number_piece_by text number len (Token Number found) utf8 digit len_is number_is is =
      let value = ap (digits_value 10) (sym (front_range text len) ∙ number_bytes text len utf8 digit len_is) in
      number_piece_is text found digit (is.1 ∙ len_is) (omega (arith, value, number_is, is.0))
  number_piece_by text number len LargeNumber utf8 digit len_is number_is is =
      let value = ap (digits_value 10) (sym (front_range text len) ∙ number_bytes text len utf8 digit len_is) in
      large_number_is text digit (omega (arith, value, number_is, is))
  number_piece_by text number len _ utf8 digit len_is number_is is = absurd is

  -- ---- marks

  -- a token, along an equation of the characters
  pub token_along : (cs ds : List ℕ) (piece : Piece) → cs ≡ ds → IsPieceOf greatest (token_front ds (longest_token ds)) ds piece
      → IsPieceOf greatest (token_front cs (longest_token cs)) cs piece
  token_along cs ds piece same is = subst (λ l. IsPieceOf greatest (token_front l (longest_token l)) l piece) (sym same) is

  -- no character is left
  pub no_mark : IsPieceOf greatest (token_front [] (longest_token [])) [] Nothing
  unfolding longest_token last_passing
  no_mark = subst (λ kind. IsPieceOf greatest (token_if kind 0) [] Nothing) (sym kind_of-nil) tt

  pub short_mark_is : (c : ℕ) (found : Option Kind) (kind : Kind) (len : ℕ) → found ≡ kind_of_mark (c ∷ [])
      → found ≡ Some kind → len ≡ len_utf8 c → IsPieceOf greatest (token_if (kind_of_mark (c ∷ [])) 1) (c ∷ []) (Token kind len)
  short_mark_is c found kind len found_is is_kind len_is =
      let known = sym found_is ∙ is_kind in
      subst (λ k. IsPieceOf greatest (token_if k 1) (c ∷ []) (Token kind len)) (sym known)
      (refl, is_too_large-mark (c ∷ []) _ kind known, short_spans c [] len len_is)

  pub no_mark_is : (c : ℕ) (found : Option Kind) → found ≡ kind_of_mark (c ∷ []) → found ≡ None
      → IsPieceOf greatest (token_if (kind_of_mark (c ∷ [])) 1) (c ∷ []) Nothing
  no_mark_is c found found_is is_none = subst (λ k. IsPieceOf greatest (token_if k 1) (c ∷ []) Nothing) (sym is_none ∙ found_is) tt

  -- one character, whatever follows it
  short_before : (c : ℕ) (cs : List ℕ) (kind : Option Kind) (piece : Piece) → IsPieceOf greatest (token_if kind 1) (c ∷ []) piece
      → IsPieceOf greatest (token_if kind 1) (c ∷ cs) piece
  short_before c cs None (Gap len) is = absurd is
  short_before c cs None (Token found len) is = absurd is
  short_before c cs None LargeNumber is = absurd is
  short_before c cs None Nothing is = tt
  short_before c cs (Some kind) (Gap len) is = absurd is
  short_before c cs (Some kind) (Token found len) is = (is.0, is.1, record { some = is.2.some; within = omega arith; bytes = is.2.bytes })
  short_before c cs (Some kind) LargeNumber is = is
  short_before c cs (Some kind) Nothing is = absurd is

  pub long_mark_is : (c d : ℕ) (cs : List ℕ) (kind : Kind) (len : ℕ) → begins_word c ≡ false → is_ascii_digit c ≡ false
      → kind_of_mark (c ∷ d ∷ []) ≡ Some kind → len ≡ len_utf8 c + len_utf8 d
      → IsPieceOf greatest (token_front (c ∷ d ∷ cs) (longest_token (c ∷ d ∷ cs))) (c ∷ d ∷ cs) (Token kind len)
  long_mark_is c d cs kind len no_word no_digit found len_is =
      subst (λ f. IsPieceOf greatest f (c ∷ d ∷ cs) (Token kind len)) (sym (mark_front-long c d cs kind no_word no_digit found)) (
        refl,
        is_too_large-mark (c ∷ d ∷ []) _ kind found,
        record { some = omega arith; within = omega arith; bytes = omega (arith, byte_length-cons c (d ∷ []), byte_length-cons d []) },
      )

  -- a mark of one character at the end, and where no mark of two stands
  pub last_mark_at : (cs : List ℕ) (c : ℕ) (more : List ℕ) (piece : Piece) → cs ≡ c ∷ more → length more ≡ 0
      → StartsOther cs → IsPieceOf greatest (token_if (kind_of_mark (c ∷ [])) 1) (c ∷ []) piece
      → IsPieceOf greatest (token_front cs (longest_token cs)) cs piece
  last_mark_at cs c [] piece split none other is =
      let starts : StartsOther (c ∷ []) = subst StartsOther split other in
      token_along cs (c ∷ []) piece split (subst (λ f. IsPieceOf greatest f (c ∷ []) piece) (sym (mark_front-last c starts.0 starts.1)) is)
  last_mark_at cs c (d ∷ more) piece split none other is = absurd (omega arith)

  pub short_mark_at : (cs : List ℕ) (c d : ℕ) (more : List ℕ) (found : Option Kind) (piece : Piece) → cs ≡ c ∷ d ∷ more
      → StartsOther cs → found ≡ kind_of_mark (c ∷ d ∷ []) → found ≡ None
      → IsPieceOf greatest (token_if (kind_of_mark (c ∷ [])) 1) (c ∷ []) piece
      → IsPieceOf greatest (token_front cs (longest_token cs)) cs piece
  short_mark_at cs c d more found piece split other found_is is_none is =
      let starts : StartsOther (c ∷ d ∷ more) = subst StartsOther split other in
      token_along cs (c ∷ d ∷ more) piece split
      (subst (λ f. IsPieceOf greatest f (c ∷ d ∷ more) piece) (sym (mark_front-short c d more starts.0 starts.1 (sym found_is ∙ is_none))) (short_before c (d ∷ more) (kind_of_mark (c ∷ [])) piece is))

  pub long_mark_at : (cs : List ℕ) (c d : ℕ) (more : List ℕ) (found : Option Kind) (kind : Kind) (len : ℕ)
      → cs ≡ c ∷ d ∷ more → StartsOther cs → found ≡ kind_of_mark (c ∷ d ∷ []) → found ≡ Some kind
      → len ≡ len_utf8 c + len_utf8 d → IsPieceOf greatest (token_front cs (longest_token cs)) cs (Token kind len)
  long_mark_at cs c d more found kind len split other found_is is_kind len_is =
      let starts : StartsOther (c ∷ d ∷ more) = subst StartsOther split other in
      token_along cs (c ∷ d ∷ more) (Token kind len) split (long_mark_is c d more kind len starts.0 starts.1 (sym found_is ∙ is_kind) len_is)

  -- ---- white space, comments and the choice

  pub white_space_is : (c : ℕ) (cs : List ℕ) (len : ℕ) → is_white_space c ≡ true
      → len ≡ byte_length (take_while is_white_space (c ∷ cs)) → IsPieceOf greatest (front_of (c ∷ cs)) (c ∷ cs) (Gap len)
  unfolding front_of
  white_space_is c cs len white len_is =
      let some : 0 < prefix_len is_white_space (c ∷ cs) = omega (arith, cond-true (is_white_space c) (1 + prefix_len is_white_space cs) 0 white) in
      subst (λ f. IsPieceOf greatest f (c ∷ cs) (Gap len)) (sym (cond-true _ _ _ white))
      (record { some = some; within = prefix_len-le is_white_space (c ∷ cs); bytes = len_is })

  pub comment_is : (c : ℕ) (cs : List ℕ) (len : ℕ) → is_white_space c ≡ false → c ≡ 35
      → len ≡ byte_length (take_while stays_in_line (c ∷ cs)) → IsPieceOf greatest (front_of (c ∷ cs)) (c ∷ cs) (Gap len)
  unfolding front_of
  comment_is c cs len no_white hash len_is =
      let goes : stays_in_line c ≡ true = ap stays_in_line hash in
      let some : 0 < prefix_len stays_in_line (c ∷ cs) = omega (arith, cond-true (stays_in_line c) (1 + prefix_len stays_in_line cs) 0 goes) in
      subst (λ f. IsPieceOf greatest f (c ∷ cs) (Gap len)) (sym (cond-false _ _ _ no_white ∙ cond-true _ _ _ (eq-eqb c 35 hash)))
      (record { some = some; within = prefix_len-le stays_in_line (c ∷ cs); bytes = len_is })

  pub other_is : (c : ℕ) (cs : List ℕ) (piece : Piece) → is_white_space c ≡ false → (c ≡ 35 → ⊥)
      → IsPieceOf greatest (token_front (c ∷ cs) (longest_token (c ∷ cs))) (c ∷ cs) piece
      → IsPieceOf greatest (front_of (c ∷ cs)) (c ∷ cs) piece
  unfolding front_of
  other_is c cs piece no_white no_hash is =
      subst (λ f. IsPieceOf greatest f (c ∷ cs) piece) (sym (cond-false _ _ _ no_white ∙ cond-false _ _ _ (ne_eqb c 35 no_hash))) is

  pub nothing_is : IsPieceOf greatest (front_of []) [] Nothing
  unfolding front_of
  nothing_is = tt

  -- ---- the same of characters that are known to begin so

  pub nothing_at : (cs : List ℕ) → length cs ≡ 0 → IsPieceOf greatest (front_of cs) cs Nothing
  nothing_at [] none = nothing_is
  nothing_at (c ∷ cs) none = absurd (omega arith)

  pub no_mark_at : (cs : List ℕ) → length cs ≡ 0 → IsPieceOf greatest (token_front cs (longest_token cs)) cs Nothing
  no_mark_at [] none = no_mark
  no_mark_at (c ∷ cs) none = absurd (omega arith)

  -- a front and a piece, along an equation of the characters
  pub front_along : (cs ds : List ℕ) (piece : Piece) → cs ≡ ds → IsPieceOf greatest (front_of ds) ds piece
      → IsPieceOf greatest (front_of cs) cs piece
  front_along cs ds piece same is = subst (λ l. IsPieceOf greatest (front_of l) l piece) (sym same) is

  pub other_at : (cs : List ℕ) (c : ℕ) (more : List ℕ) (piece : Piece) → cs ≡ c ∷ more → is_white_space c ≡ false
      → (c ≡ 35 → ⊥) → IsPieceOf greatest (token_front cs (longest_token cs)) cs piece → IsPieceOf greatest (front_of cs) cs piece
  other_at cs c more piece split no_white no_hash is =
      front_along cs (c ∷ more) piece split (other_is c more piece no_white no_hash (token_along (c ∷ more) cs piece (sym split) is))

  pub comment_at : (cs : List ℕ) (c : ℕ) (more : List ℕ) (len : ℕ) → cs ≡ c ∷ more → is_white_space c ≡ false → c ≡ 35
      → len ≡ byte_length (take_while stays_in_line cs) → IsPieceOf greatest (front_of cs) cs (Gap len)
  comment_at cs c more len split no_white hash len_is =
      front_along cs (c ∷ more) (Gap len) split (comment_is c more len no_white hash (len_is ∙ ap (λ l. byte_length (take_while stays_in_line l)) split))

  pub white_space_at : (cs : List ℕ) (c : ℕ) (more : List ℕ) (len : ℕ) → cs ≡ c ∷ more → is_white_space c ≡ true
      → len ≡ byte_length (take_while is_white_space cs) → IsPieceOf greatest (front_of cs) cs (Gap len)
  white_space_at cs c more len split white len_is =
      front_along cs (c ∷ more) (Gap len) split (white_space_is c more len white (len_is ∙ ap (λ l. byte_length (take_while is_white_space l)) split))
