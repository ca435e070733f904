-- The tokens of a scan are tokens of its text.
use Rattle.std.proofs.Common.{◌≡◌, ℕ, zero, suc, ◌+◌, ◌-◌, ◌<◌, ◌≤◌, true, false, List, [], ◌∷◌, ◌++◌, length, take}
use Rattle.std.proofs.Common.{drop, Option, Some, None, Ok, Err, sym, refl, ap, ◌∙◌, subst, ⊎_elim, arith}
use Rattle.std.proofs.Common.{length-append, append_assoc}
use Rattle.std.specs.Prelude.{encode_utf8_all, slice_get}
use Rattle.std.specs.Option.{IfSome, IsSomeAnd}
use Rattle.std.specs.List.{slice_range}
use Rattle.std.specs.Str.Parse.{digits_value}
use Rattle.std.specs.Str.{chars, all_scalars, IsUtf8, IsCharBoundary}
use Rattle.std.proofs.lemmas.Bool.{and_parts, and_from, cases_Bool, false≢true, ltb-false, le-ltb}
use Rattle.std.proofs.lemmas.List.{take_at, drop_at}
use Rattle.std.proofs.lemmas.Str.{encodes-append, encodes-chars, scalars-chars, chars-encodes, IsCharBoundary-at_seam}
use Rattle.std.proofs.lemmas.Str.{IsUtf8-append, len_utf8_bounds}
use Rattle.ftl_tokens.specs.declared.scanner.kind.Kind.{Kind}
use Rattle.ftl_tokens.specs.declared.scanner.kind.Kind.TheVariants.{Name, Number}
use Rattle.ftl_tokens.specs.declared.scanner.kind.Token.{Token}
use Rattle.ftl_tokens.specs.scanner.Kinds.{is_word, is_number, kind_of, kind_of_word}
use Rattle.ftl_tokens.specs.scanner.Scan.{byte_length, is_too_large, Scanning, followed_by, scan}
use Rattle.ftl_tokens.specs.scanner.Scans.{Scans, at_end, past_gap, past_token, large_number, bad_char}
use Rattle.ftl_tokens.specs.scanner.Tokenized.{Tokenized, token_text, IsTokenOf, AreTokensOf, symbol, symbol_of, symbols_of}
use Rattle.ftl_tokens.specs.scanner.Tokenized.{kind_of_symbol}
use Rattle.ftl_tokens.proofs.scanner.FrontLemmas.{kind_of-word, kind_of-mark, kind_of-nil}
use Rattle.ftl_tokens.proofs.scanner.NumberLemmas.{is_number-digits}
use Rattle.ftl_tokens.proofs.scanner.PieceLemmas.{digits_are_bytes, is_too_large-word, is_too_large-mark}
use Rattle.ftl_tokens.proofs.scanner.ScansLemmas.{scans}
use Rattle.ftl_tokens.proofs.scanner.TextLemmas.{byte_length-cons}
use Rattle.std.proofs.lemmas.Option.{slice_get-map}
use Rattle.std.specs.Option.{option_map}
use Rattle.std.proofs.lemmas.List.{length-map}

-- the tokens, if there are any, from byte `at` on
abbrev HaveTokens : ℕ → List ℕ → ℕ → Scanning → Type 0
HaveTokens greatest text at (Ok tokens) = AreTokensOf greatest text at tokens
HaveTokens greatest text at (Err fault) = Unit {0}

seam_text : (text front word rest : List ℕ) → text ≡ front ++ (word ++ rest)
    → slice_range text (length front) (length front + length word) ≡ word
seam_text text front word rest split =
    let count : length front + length word - length front ≡ length word = omega arith in
    ap (λ n. take n (drop (length front) text)) count
    ∙ ap (λ l. take (length word) l) (ap (drop (length front)) split ∙ drop_at front (word ++ rest) (length front) refl)
    ∙ take_at word rest (length word) refl

-- tokens from a later place stand from an earlier one too
later : (greatest : ℕ) (text : List ℕ) (at next : ℕ) (scan : Scanning) → at ≤ next → HaveTokens greatest text next scan
    → HaveTokens greatest text at scan
later greatest text at next (Err fault) before have = tt
later greatest text at next (Ok []) before have = tt
later greatest text at next (Ok (token ∷ tokens)) before have = (omega (arith, have.0), have.1, have.2)

one_more : (greatest : ℕ) (text : List ℕ) (token : Token) (scan : Scanning) → IsTokenOf greatest text token → HaveTokens greatest text token.end scan
    → HaveTokens greatest text token.start (followed_by (token ∷ []) scan)
one_more greatest text token (Ok tokens) is have = (omega arith, is, have)
one_more greatest text token (Err fault) is have = tt

-- a number's characters are digits
number_digits : (text : List ℕ) → kind_of text ≡ Some Number → is_number text ≡ true
number_digits text kind =
    ⊎_elim
    (λ word. absurd (cases_apart (kind_of_word text) (cc (kind, kind_of-word text word)) (is_too_large-word 0 text (57 ∷ []))))
    (λ no_word.
    ⊎_elim
    (λ number. number)
    (λ no_number. absurd (false≢true (sym (is_too_large-mark 0 text (57 ∷ []) Number (sym (kind_of-mark text no_word no_number) ∙ kind)))))
    (cases_Bool (is_number text)))
    (cases_Bool (is_word text)) where
      cases_apart : (kind : Kind) → kind ≡ Number
          → is_too_large 0 kind (57 ∷ []) ≡ false → ⊥
      cases_apart kind is small = false≢true (sym small ∙ ap (λ k. is_too_large 0 k (57 ∷ [])) is)

-- the limit is that of the bytes as of the characters
small_bytes : (greatest : ℕ) (kind : Kind) (text : List ℕ) → kind_of text ≡ Some kind → is_too_large greatest kind text ≡ false
    → is_too_large greatest kind (encode_utf8_all text) ≡ false
small_bytes greatest Number text kind small = ap (is_too_large greatest Number) (digits_are_bytes text (is_number-digits text (number_digits text kind))) ∙ small
small_bytes greatest _ text kind small = refl

token_has_bytes : (word : List ℕ) (kind : Kind) → kind_of word ≡ Some kind → 0 < byte_length word
token_has_bytes [] kind is = absurd (cc (kind_of-nil, is))
token_has_bytes (c ∷ cs) kind is = omega (arith, byte_length-cons c cs, (len_utf8_bounds c).0)

token_of : (greatest : ℕ) (text front word rest : List ℕ) (kind : Kind)
    → text ≡ front ++ (encode_utf8_all word ++ encode_utf8_all rest) → all_scalars word ≡ true
    → all_scalars rest ≡ true → kind_of word ≡ Some kind → is_too_large greatest kind word ≡ false
    → IsTokenOf greatest text (record { kind = kind; start = length front; end = length front + byte_length word })
token_of greatest text front word rest kind split word_scalars rest_scalars is small =
    let bytes = seam_text text front (encode_utf8_all word) (encode_utf8_all rest) split in
    let word_utf8 : IsUtf8 (encode_utf8_all word) = (word, (word_scalars, refl)) in
    let rest_utf8 : IsUtf8 (encode_utf8_all rest) = (rest, (rest_scalars, refl)) in
    let after : text ≡ (front ++ encode_utf8_all word) ++ encode_utf8_all rest = split ∙ sym (append_assoc front (encode_utf8_all word) (encode_utf8_all rest)) in
    record {
      some = omega (arith, token_has_bytes word kind is);
      begins = IsCharBoundary-at_seam text front (encode_utf8_all word ++ encode_utf8_all rest) split (IsUtf8-append (encode_utf8_all word) (encode_utf8_all rest) word_utf8 rest_utf8);
      ends = subst (IsCharBoundary text) (length-append front (encode_utf8_all word)) (IsCharBoundary-at_seam text (front ++ encode_utf8_all word) (encode_utf8_all rest) after rest_utf8);
      kind = ap (λ l. kind_of (chars l)) bytes ∙ ap kind_of (chars-encodes word word_scalars) ∙ is;
      small = ap (is_too_large greatest kind) bytes ∙ small_bytes greatest kind word is small;
    }

all_scalars-append : (xs ys : List ℕ) → all_scalars (xs ++ ys) ≡ true
    → (all_scalars xs ≡ true) × (all_scalars ys ≡ true)
all_scalars-append [] ys scalar = (refl, scalar)
all_scalars-append (x ∷ xs) ys scalar =
    let parts = and_parts _ _ scalar in
    let rest = all_scalars-append xs ys parts.1 in
    (and_from _ _ parts.0 rest.0, rest.1)

-- where the text is cut into what was passed, a word and the rest
record Cut (text front word rest : List ℕ) : Type 0 where
  split : text ≡ front ++ (encode_utf8_all word ++ encode_utf8_all rest)
  after : text ≡ (front ++ encode_utf8_all word) ++ encode_utf8_all rest
  place : length (front ++ encode_utf8_all word) ≡ length front + byte_length word

cut_at : (text front word rest : List ℕ) → text ≡ front ++ encode_utf8_all (word ++ rest) → Cut text front word rest
cut_at text front word rest text_is =
    let split : text ≡ front ++ (encode_utf8_all word ++ encode_utf8_all rest) = text_is ∙ ap (λ l. front ++ l) (encodes-append word rest) in
    record {
      split = split;
      after = split ∙ sym (append_assoc front (encode_utf8_all word) (encode_utf8_all rest));
      place = length-append front (encode_utf8_all word);
    }

-- the characters cs are what is left of the text after front
tokens_from : (greatest : ℕ) {at : ℕ} {cs : List ℕ} {scan : Scanning} → Scans greatest at cs scan → (text front : List ℕ)
    → length front ≡ at
    → text ≡ front ++ encode_utf8_all cs → all_scalars cs ≡ true → HaveTokens greatest text at scan
tokens_from greatest at_end text front place text_is scalar = tt
tokens_from greatest (past_gap {at} {text = word} {rest} {scan} gap cuts) text front place text_is scalar =
    let cut = cut_at text front word rest text_is in
    later greatest text at (at + byte_length word) scan (omega arith)
    (tokens_from greatest cuts text (front ++ encode_utf8_all word) (omega (arith, cut.place, place)) cut.after (all_scalars-append word rest scalar).1)
tokens_from greatest (past_token {at} {kind} {text = word} {rest} {scan} token small cuts) text front place text_is scalar =
    let cut = cut_at text front word rest text_is in
    let scalars = all_scalars-append word rest scalar in
    let have = tokens_from greatest cuts text (front ++ encode_utf8_all word) (omega (arith, cut.place, place)) cut.after scalars.1 in
    let is = token_of greatest text front word rest kind cut.split scalars.0 scalars.1 token.is_token small in
    one_more greatest text (record { kind = kind; start = at; end = at + byte_length word }) scan
    (subst (λ p. IsTokenOf greatest text (record { kind = kind; start = p; end = p + byte_length word })) place is) have
tokens_from greatest (large_number token large) text front place text_is scalar = tt
tokens_from greatest (bad_char begins) text front place text_is scalar = tt

pub are_tokens_of : (greatest : ℕ) (text : List ℕ) (tokens : List Token) → IsUtf8 text → scan greatest text ≡ Ok tokens
    → AreTokensOf greatest text 0 tokens
are_tokens_of greatest text tokens utf8 is =
    subst (HaveTokens greatest text 0) is (tokens_from greatest (scans greatest text) text [] refl (sym (encodes-chars text utf8)) (scalars-chars text utf8))

pub is_token_of-get : (greatest : ℕ) (text : List ℕ) (at : ℕ) (tokens : List Token) (k : ℕ) (t : Token) → AreTokensOf greatest text at tokens
    → slice_get tokens k ≡ Some t → IsTokenOf greatest text t
is_token_of-get greatest text at [] k t are get = absurd (cc get)
is_token_of-get greatest text at (token ∷ tokens) zero t are get = let same : token ≡ t = cc get in subst (IsTokenOf greatest text) same are.1
is_token_of-get greatest text at (token ∷ tokens) (suc k) t are get = is_token_of-get greatest text token.end tokens k t are.2 get

-- the symbol of a token
pub symbols_of-get : (scanned : Tokenized) (k : ℕ) (t : Token) → slice_get scanned.tokens k ≡ Some t
    → slice_get (symbols_of scanned) k ≡ Some (symbol_of scanned.text t)
symbols_of-get scanned k t get = slice_get-map (symbol_of scanned.text) scanned.tokens k ∙ ap (option_map (symbol_of scanned.text)) get

pub length-symbols_of : (scanned : Tokenized) → length (symbols_of scanned) ≡ length scanned.tokens
length-symbols_of scanned = length-map scanned.tokens (symbol_of scanned.text)

pub kind_of_symbol-symbol : (kind : Kind) (text : List ℕ) → kind_of_symbol (symbol kind text) ≡ kind
kind_of_symbol-symbol Name text = refl
kind_of_symbol-symbol Number text = refl
kind_of_symbol-symbol _ text = refl

-- the bytes of a number are digits
pub token_is_number : (bytes : List ℕ) → IsUtf8 bytes → kind_of (chars bytes) ≡ Some Number → is_number bytes ≡ true
token_is_number bytes utf8 kind =
    let number = number_digits (chars bytes) kind in
    let same : chars bytes ≡ bytes = sym (digits_are_bytes (chars bytes) (is_number-digits (chars bytes) number)) ∙ encodes-chars bytes utf8 in
    ap is_number (sym same) ∙ number

pub slice_is_number : (greatest : ℕ) (token : Option Token) (text bytes : List ℕ) → IsSomeAnd token (λ t. t.kind ≡ Number)
    → IfSome token (λ t. bytes ≡ token_text text t) → IfSome token (IsTokenOf greatest text) → IsUtf8 bytes
    → is_number bytes ≡ true
slice_is_number greatest None text bytes is_number_token bytes_are is utf8 = absurd is_number_token
slice_is_number greatest (Some token) text bytes is_number_token bytes_are is utf8 =
    token_is_number bytes utf8 (ap (λ l. kind_of (chars l)) bytes_are ∙ is.kind ∙ ap (λ k. Some k) is_number_token)

-- a token of a text whose numbers are at most a number is one where they are at most a greater number
is_too_large-wider : (greatest more : ℕ) → greatest ≤ more → (kind : Kind) (bytes : List ℕ)
    → is_too_large greatest kind bytes ≡ false → is_too_large more kind bytes ≡ false
is_too_large-wider greatest more fewer Number bytes small =
    let fits = ltb-false greatest (digits_value 10 bytes) small in le-ltb _ _ (omega arith)
is_too_large-wider greatest more fewer _ bytes small = refl

is_token_of-wider : (greatest more : ℕ) (text : List ℕ) (token : Token) → greatest ≤ more → IsTokenOf greatest text token
    → IsTokenOf more text token
is_token_of-wider greatest more text token fewer is = record {
  some = is.some;
  begins = is.begins;
  ends = is.ends;
  kind = is.kind;
  small = is_too_large-wider greatest more fewer token.kind (token_text text token) is.small;
}

pub are_tokens_of-wider : (greatest more : ℕ) (text : List ℕ) (at : ℕ) (tokens : List Token) → greatest ≤ more
    → AreTokensOf greatest text at tokens → AreTokensOf more text at tokens
are_tokens_of-wider greatest more text at [] fewer are = tt
are_tokens_of-wider greatest more text at (token ∷ tokens) fewer are =
    (are.0, is_token_of-wider greatest more text token fewer are.1, are_tokens_of-wider greatest more text token.end tokens fewer are.2)

-- each of the tokens is a token of the text
pub is_token_of-each : (greatest : ℕ) (text : List ℕ) (at : ℕ) (tokens : List Token) (k : ℕ)
    → AreTokensOf greatest text at tokens → IfSome (slice_get tokens k) (IsTokenOf greatest text)
is_token_of-each greatest text at [] k are = tt
is_token_of-each greatest text at (token ∷ tokens) zero are = are.1
is_token_of-each greatest text at (token ∷ tokens) (suc k) are = is_token_of-each greatest text token.end tokens k are.2

-- the value of a number token is at most the greatest number
value_by : (greatest : ℕ) (text : List ℕ) (value : ℕ) (o : Option Token) → IsSomeAnd o (λ t. t.kind ≡ Number)
    → IfSome o (λ t. value ≡ digits_value 10 (token_text text t)) → IfSome o (IsTokenOf greatest text) → value ≤ greatest
value_by greatest text value None number value_is is = absurd number
value_by greatest text value (Some t) number value_is is =
    let fits = ltb-false greatest _ (ap (λ kind. is_too_large greatest kind (token_text text t)) (sym number) ∙ is.small) in
    omega (arith, value_is)

pub value-small : (greatest : ℕ) (text : List ℕ) (tokens : List Token) (k value : ℕ) → AreTokensOf greatest text 0 tokens
    → IsSomeAnd (slice_get tokens k) (λ t. t.kind ≡ Number)
    → IfSome (slice_get tokens k) (λ t. value ≡ digits_value 10 (token_text text t)) → value ≤ greatest
value-small greatest text tokens k value are number value_is =
    value_by greatest text value (slice_get tokens k) number value_is (is_token_of-each greatest text 0 tokens k are)

-- and so is that of its bytes
pub slice_value-small : (greatest : ℕ) (text bytes : List ℕ) (o : Option Token) → IsSomeAnd o (λ t. t.kind ≡ Number)
    → IfSome o (λ t. bytes ≡ token_text text t) → IfSome o (IsTokenOf greatest text) → digits_value 10 bytes ≤ greatest
slice_value-small greatest text bytes None number bytes_are is = absurd number
slice_value-small greatest text bytes (Some t) number bytes_are is =
    value_by greatest text (digits_value 10 bytes) (Some t) number (ap (digits_value 10) bytes_are) is
