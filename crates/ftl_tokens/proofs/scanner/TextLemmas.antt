-- A text that is cut after its first characters.
use Rattle.std.proofs.Common.{◌≡◌, ℕ, zero, suc, ◌+◌, ◌<◌, ◌≤◌, true, List, [], ◌∷◌, ◌++◌, length, take, drop, sym}
use Rattle.std.proofs.Common.{refl, ap, ◌∙◌, subst, arith, length-append, take-append-drop}
use Rattle.std.specs.Char.{encode_utf8, len_utf8}
use Rattle.std.specs.Prelude.{encode_utf8_all}
use Rattle.std.specs.Str.{chars, all_scalars, IsUtf8, IsCharBoundary}
use Rattle.std.proofs.lemmas.Bool.{and_parts, and_from}
use Rattle.std.proofs.lemmas.List.{take_at, drop_at, nil_from_length}
use Rattle.std.proofs.lemmas.Str.{encodes-append, encodes-chars, scalars-chars, chars-encodes, IsCharBoundary-at_seam}
use Rattle.std.proofs.lemmas.Str.{length-encode, len_utf8_bounds, chars_past_char, IsUtf8-past_char, chars-nil}
use Rattle.ftl_tokens.specs.scanner.Scan.{byte_length}

pub all_scalars-take : (n : ℕ) (cs : List ℕ) → all_scalars cs ≡ true → all_scalars (take n cs) ≡ true
all_scalars-take zero cs scalar = refl
all_scalars-take (suc n) [] scalar = refl
all_scalars-take (suc n) (c ∷ cs) scalar =
    let parts = and_parts _ _ scalar in
    and_from _ _ parts.0 (all_scalars-take n cs parts.1)

pub all_scalars-drop : (n : ℕ) (cs : List ℕ) → all_scalars cs ≡ true → all_scalars (drop n cs) ≡ true
all_scalars-drop zero cs scalar = scalar
all_scalars-drop (suc n) [] scalar = refl
all_scalars-drop (suc n) (c ∷ cs) scalar = all_scalars-drop n cs (and_parts _ _ scalar).1

-- the text is cut after its first n characters
pub record IsCut (text : List ℕ) (n : ℕ) : Type 0 where
  pub within : byte_length (take n (chars text)) ≤ length text
  pub boundary : IsCharBoundary text (byte_length (take n (chars text)))
  pub front : take (byte_length (take n (chars text))) text ≡ encode_utf8_all (take n (chars text))
  pub front_chars : chars (take (byte_length (take n (chars text))) text) ≡ take n (chars text)
  pub rest_utf8 : IsUtf8 (drop (byte_length (take n (chars text))) text)
  pub rest_chars : chars (drop (byte_length (take n (chars text))) text) ≡ drop n (chars text)

pub is_cut : (text : List ℕ) (n : ℕ) → IsUtf8 text → IsCut text n
is_cut text n utf8 =
    let cs = chars text in
    let front : List ℕ = encode_utf8_all (take n cs) in
    let back : List ℕ = encode_utf8_all (drop n cs) in
    let front_scalars = all_scalars-take n cs (scalars-chars text utf8) in
    let back_scalars = all_scalars-drop n cs (scalars-chars text utf8) in
    let split : text ≡ front ++ back = sym (encodes-chars text utf8) ∙ ap encode_utf8_all (sym (take-append-drop n cs)) ∙ encodes-append (take n cs) (drop n cs) in
    let back_utf8 : IsUtf8 back = (drop n cs, (back_scalars, refl)) in
    let front_is : take (length front) text ≡ front = ap (take (length front)) split ∙ take_at front back (length front) refl in
    let back_is : drop (length front) text ≡ back = ap (drop (length front)) split ∙ drop_at front back (length front) refl in
    record {
      within = omega (arith, ap length split, length-append front back);
      boundary = IsCharBoundary-at_seam text front back split back_utf8;
      front = front_is;
      front_chars = ap chars front_is ∙ chars-encodes (take n cs) front_scalars;
      rest_utf8 = subst IsUtf8 (sym back_is) back_utf8;
      rest_chars = ap chars back_is ∙ chars-encodes (drop n cs) back_scalars;
    }

-- the bytes of a character and those of the characters after it
pub byte_length-cons : (c : ℕ) (cs : List ℕ) → byte_length (c ∷ cs) ≡ len_utf8 c + byte_length cs
byte_length-cons c cs = length-append (encode_utf8 c) (encode_utf8_all cs) ∙ ap (λ n. n + byte_length cs) (length-encode c)

-- the first character of a text, as an iterator over it takes it
pub first_char : (text before after : List ℕ) (c : ℕ) → IsUtf8 text → before ≡ text → before ≡ encode_utf8 c ++ after
    → chars text ≡ c ∷ chars after
first_char text before after c utf8 same split = chars_past_char text after c utf8 (sym same ∙ split)

-- what is left then is a text
pub rest_is_text : (text before after : List ℕ) (c : ℕ) → IsUtf8 text → before ≡ text
    → before ≡ encode_utf8 c ++ after → IsUtf8 after
rest_is_text text before after c utf8 same split = IsUtf8-past_char text after c utf8 (sym same ∙ split)

-- nothing is left
pub no_char : (text before : List ℕ) → before ≡ text → length before ≡ 0 → length (chars text) ≡ 0
no_char text before same none = ap (λ bs. length (chars bs)) (sym same ∙ nil_from_length before none) ∙ ap length chars-nil

-- the first two characters
pub two_chars : (text before after last : List ℕ) (c d : ℕ) → IsUtf8 text → before ≡ text
    → before ≡ encode_utf8 c ++ after → after ≡ encode_utf8 d ++ last → chars text ≡ c ∷ d ∷ chars last
two_chars text before after last c d utf8 same split split_after =
    first_char text before after c utf8 same split ∙ ap (λ cs. c ∷ cs) (chars_past_char after last d (rest_is_text text before after c utf8 same split) split_after)

-- some characters have some bytes
pub byte_length-some : (cs : List ℕ) (n : ℕ) → 0 < n → n ≤ length cs → 0 < byte_length (take n cs)
byte_length-some cs zero some within = absurd (omega arith)
byte_length-some [] (suc n) some within = absurd (omega arith)
byte_length-some (c ∷ cs) (suc n) some within = omega (arith, byte_length-cons c (take n cs), (len_utf8_bounds c).0)
