-- Written texts of ASCII letters, digits and marks are read as they were written: a test tells which.
use Rattle.std.proofs.Common.{◌≡◌, ℕ, ◌<◌, Bool, true, false, not, ◌&&◌, ◌||◌, eqb, List, [], ◌∷◌, ◌++◌, Option, Some, None}
use Rattle.std.proofs.Common.{refl, sym, ap, ap₂, ◌∙◌, subst, arith, ◌+◌}
use Rattle.std.specs.Prelude.{flat_map, nat_lt}
use Rattle.std.specs.Char.{is_ascii_alphabetic, is_ascii_alphanumeric, is_ascii_digit}
use Rattle.std.specs.List.{list_all}
use Rattle.std.specs.Option.{unwrap_or}
use Rattle.std.specs.Str.{IsAscii, chars}
use Rattle.std.proofs.lemmas.Bool.{and_from, and_left, and_parts, and_right, ltb-true, not-true, or_left}
use Rattle.std.proofs.lemmas.Bool.Decides.{nat_tests}
use Rattle.std.proofs.lemmas.Fmt.{decimal_digit}
use Rattle.std.proofs.lemmas.List.Folds.{list_all-append}
use Rattle.std.proofs.lemmas.Str.{IsUtf8-from_ascii, chars-IsAscii}
use Rattle.unicode_ident.specs.Ident.{is_xid_continue}
use Rattle.unicode_ident.proofs.IdentLemmas.{is_xid_continue-ascii}
use Rattle.ftl_tokens.specs.declared.scanner.kind.Kind.{Kind}
use Rattle.ftl_tokens.specs.declared.scanner.kind.Kind.TheVariants as kind
use Rattle.ftl_tokens.specs.scanner.Kinds.{begins_word, kind_of, kind_of_mark, kind_of_word, look_up, marks, reserved_words}
use Rattle.ftl_tokens.specs.scanner.Scan.{is_white_space}
use Rattle.ftl_tokens.specs.scanner.Tokenized.{Symbol, fixed, name, number}
use Rattle.ftl_tokens.specs.writing.Written.{AreReadable, CanBeSaid, StandsApart, Written, fixed_text, symbol_text}
use Rattle.ftl_tokens.specs.writing.Written.{text_of}
use Rattle.ftl_tokens.proofs.scanner.FrontLemmas.{kind_of-mark, kind_of-word}
use Rattle.ftl_tokens.proofs.scanner.KindLemmas.{begins_text-digit, begins_text-word, begins_word-ascii, digit_begins_no_word}
use Rattle.ftl_tokens.proofs.scanner.KindLemmas.{kind_of_mark-text, word_begins_no_number}
use Rattle.ftl_tokens.proofs.writing.ApartLemmas.{white_stands_apart}
use Rattle.ftl_tokens.proofs.writing.FixedTexts.{ascii_from}

-- ---- the tests

abbrev are_letters : List ℕ → Bool
are_letters cs = list_all is_ascii_alphabetic cs

abbrev are_ascii : List ℕ → Bool
are_ascii cs = list_all (λ c. nat_lt c 128) cs

-- there is nothing
abbrev is_nothing : Option Kind → Bool
is_nothing None = true
is_nothing (Some k) = false

-- a character of words
abbrev is_of_word : ℕ → Bool
is_of_word c = is_ascii_alphanumeric c || eqb c 95

-- a character that begins neither a word nor a number
abbrev is_of_mark : ℕ → Bool
is_of_mark c = nat_lt c 128 && (not (is_ascii_alphabetic c || eqb c 95) && not (is_ascii_digit c))

-- a word before a character of no word, a number before no digit, a mark that the character does not make longer
abbrev is_cut : (d : ℕ) → (ds : List ℕ) → (c : ℕ) → Bool
is_cut d ds c =
    (are_letters (d ∷ ds) && (nat_lt c 128 && not (is_of_word c)))
    || ((list_all is_ascii_digit (d ∷ ds) && not (is_ascii_digit c))
    || (is_of_mark d && is_nothing (look_up (d ∷ (ds ++ (c ∷ []))) marks)))

-- what follows does not go on the token
abbrev ends_before : List ℕ → List ℕ → Bool
ends_before [] rest = false
ends_before (d ∷ ds) [] = true
ends_before (d ∷ ds) (c ∷ rest) = is_white_space c || is_cut d ds c

-- a name is a word that is not reserved
abbrev is_name : List ℕ → Bool
is_name [] = false
is_name (c ∷ cs) = are_letters (c ∷ cs) && is_nothing (look_up (c ∷ cs) reserved_words)

-- what a token can say: a number is one digit
abbrev is_said : Symbol → Bool
is_said (name text) = is_name text
is_said (number n) = nat_lt n 10
is_said (fixed kind.Name) = false
is_said (fixed kind.Number) = false
is_said (fixed _) = true

-- how such a token is written
abbrev plain_text : Symbol → List ℕ
plain_text (name text) = text
plain_text (number n) = (48 + n) ∷ []
plain_text (fixed k) = fixed_text k

-- and such tokens
abbrev pub plain_text_of : List Written → List ℕ
plain_text_of ts = flat_map (λ (t : Written). plain_text t.says ++ t.gap) ts

-- each token can be said, and has white space behind it or what does not go on it
abbrev pub are_plain : List Written → Bool
are_plain [] = true
are_plain (t ∷ ts) =
    is_said t.says
    && (list_all is_white_space t.gap && (ends_before (plain_text t.says) (t.gap ++ plain_text_of ts) && are_plain ts))

-- ---- what they tell

nothing : (o : Option Kind) → is_nothing o ≡ true → o ≡ None
nothing None e = refl
nothing (Some k) e = absurd (cc e)

letter_ascii : (c : ℕ) → is_ascii_alphabetic c ≡ true → c < 128
letter_ascii c letter = grind (arith, nat_tests)

letter_begins : (c : ℕ) → is_ascii_alphabetic c ≡ true → begins_word c ≡ true
letter_begins c letter = begins_word-ascii c (letter_ascii c letter) ∙ or_left _ _ letter

letter_continues : (c : ℕ) → is_ascii_alphabetic c ≡ true → is_xid_continue c ≡ true
letter_continues c letter =
    let either : is_ascii_alphanumeric c ≡ true = grind (arith, nat_tests) in
    is_xid_continue-ascii c (letter_ascii c letter) ∙ or_left (is_ascii_alphanumeric c) (eqb c 95) either

letters_continue : (cs : List ℕ) → are_letters cs ≡ true → list_all is_xid_continue cs ≡ true
letters_continue [] all = refl
letters_continue (c ∷ cs) all =
    let parts = and_parts (is_ascii_alphabetic c) (are_letters cs) all in
    and_from _ _ (letter_continues c parts.0) (letters_continue cs parts.1)

letters_ascii : (cs : List ℕ) → are_letters cs ≡ true → are_ascii cs ≡ true
letters_ascii [] all = refl
letters_ascii (c ∷ cs) all =
    let parts = and_parts (is_ascii_alphabetic c) (are_letters cs) all in
    let below = letter_ascii c parts.0 in
    let first : nat_lt c 128 ≡ true = grind (arith, below) in
    and_from _ _ first (letters_ascii cs parts.1)

-- a test that fails at the last does not hold of each
fails_last : (p : ℕ → Bool) (xs : List ℕ) (c : ℕ) → p c ≡ false → list_all p (xs ++ (c ∷ [])) ≡ false
fails_last p [] c fails = and_left _ _ fails
fails_last p (x ∷ xs) c fails = and_right _ _ (fails_last p xs c fails)

word_ends : (d : ℕ) (ds : List ℕ) (c : ℕ) → are_letters (d ∷ ds) ≡ true
    → (nat_lt c 128 && not (is_of_word c)) ≡ true → kind_of (d ∷ (ds ++ (c ∷ []))) ≡ None
word_ends d ds c letters ends =
    let begins = letter_begins d (and_parts (is_ascii_alphabetic d) (are_letters ds) letters).0 in
    let parts = and_parts (nat_lt c 128) (not (is_of_word c)) ends in
    let stops : is_xid_continue c ≡ false =
    is_xid_continue-ascii c (ltb-true c 128 parts.0) ∙ not-true (is_of_word c) parts.1 in
    kind_of-mark (d ∷ (ds ++ (c ∷ []))) (and_right _ _ (fails_last is_xid_continue ds c stops))
    (and_left _ _ (word_begins_no_number d begins))
    ∙ kind_of_mark-text d (ds ++ (c ∷ [])) (begins_text-word d begins)

number_ends : (d : ℕ) (ds : List ℕ) (c : ℕ) → list_all is_ascii_digit (d ∷ ds) ≡ true → not (is_ascii_digit c) ≡ true
    → kind_of (d ∷ (ds ++ (c ∷ []))) ≡ None
number_ends d ds c digits ends =
    let first = (and_parts (is_ascii_digit d) (list_all is_ascii_digit ds) digits).0 in
    kind_of-mark (d ∷ (ds ++ (c ∷ []))) (and_left _ _ (digit_begins_no_word d first))
    (and_right _ _ (fails_last is_ascii_digit ds c (not-true (is_ascii_digit c) ends)))
    ∙ kind_of_mark-text d (ds ++ (c ∷ [])) (begins_text-digit d first)

mark_ends : (d : ℕ) (ds : List ℕ) (c : ℕ) → is_of_mark d ≡ true
    → is_nothing (look_up (d ∷ (ds ++ (c ∷ []))) marks) ≡ true → kind_of (d ∷ (ds ++ (c ∷ []))) ≡ None
unfolding kind_of_mark
mark_ends d ds c mark none =
    let no_letter = not (is_ascii_alphabetic d || eqb d 95) in
    let no_digit = not (is_ascii_digit d) in
    let parts = and_parts (nat_lt d 128) (no_letter && no_digit) mark in
    let others = and_parts no_letter no_digit parts.1 in
    let no_word : begins_word d ≡ false =
    begins_word-ascii d (ltb-true d 128 parts.0) ∙ not-true (is_ascii_alphabetic d || eqb d 95) others.0 in
    kind_of-mark (d ∷ (ds ++ (c ∷ []))) (and_left _ _ no_word) (and_left _ _ (not-true (is_ascii_digit d) others.1))
    ∙ nothing (look_up (d ∷ (ds ++ (c ∷ []))) marks) none

-- either of two tests that one passes
either : {P : Type 0} (a b : Bool) → (a || b) ≡ true → (a ≡ true → P) → (b ≡ true → P) → P
either true b e first second = first refl
either false b e first second = second e

apart : (text rest : List ℕ) → ends_before text rest ≡ true → StandsApart text rest
apart [] rest e = absurd (cc e)
apart (d ∷ ds) [] e = tt
apart (d ∷ ds) (c ∷ rest) e =
    let word = are_letters (d ∷ ds) && (nat_lt c 128 && not (is_of_word c)) in
    let digits = list_all is_ascii_digit (d ∷ ds) && not (is_ascii_digit c) in
    let mark = is_of_mark d && is_nothing (look_up (d ∷ (ds ++ (c ∷ []))) marks) in
    either (is_white_space c) (word || (digits || mark)) e (λ white. white_stands_apart (d ∷ ds) c white)
    (λ others. either word (digits || mark) others
    (λ h. let parts = and_parts (are_letters (d ∷ ds)) (nat_lt c 128 && not (is_of_word c)) h in
    word_ends d ds c parts.0 parts.1)
    (λ last. either digits mark last
    (λ h. let parts = and_parts (list_all is_ascii_digit (d ∷ ds)) (not (is_ascii_digit c)) h in
    number_ends d ds c parts.0 parts.1)
    (λ h. let parts = and_parts (is_of_mark d) (is_nothing (look_up (d ∷ (ds ++ (c ∷ []))) marks)) h in
    mark_ends d ds c parts.0 parts.1)))

name_said : (text : List ℕ) → is_name text ≡ true → CanBeSaid 2147483647 (name text)
unfolding kind_of_word
name_said [] e = absurd (cc e)
name_said (c ∷ cs) e =
    let parts = and_parts (are_letters (c ∷ cs)) (is_nothing (look_up (c ∷ cs) reserved_words)) e in
    let letters = and_parts (is_ascii_alphabetic c) (are_letters cs) parts.0 in
    let ascii : IsAscii (c ∷ cs) = ascii_from (c ∷ cs) (letters_ascii (c ∷ cs) parts.0) in
    let free : kind_of_word (c ∷ cs) ≡ kind.Name =
    ap (λ (o : Option Kind). unwrap_or o kind.Name) (nothing (look_up (c ∷ cs) reserved_words) parts.1) in (
      IsUtf8-from_ascii (c ∷ cs) ascii,
      ap kind_of (chars-IsAscii (c ∷ cs) ascii)
          ∙ kind_of-word (c ∷ cs) (and_from _ _ (letter_begins c letters.0) (letters_continue cs letters.1))
          ∙ ap (λ (k : Kind). Some k) free,
    )

said : (s : Symbol) → is_said s ≡ true → CanBeSaid 2147483647 s
said (name text) e = name_said text e
said (number n) e = let small = ltb-true n 10 e in omega (arith, small)
said (fixed kind.Name) e = absurd (cc e)
said (fixed kind.Number) e = absurd (cc e)
said (fixed _) e = tt

chars_apart : (text rest : List ℕ) → are_ascii text ≡ true → are_ascii rest ≡ true → StandsApart text rest
    → StandsApart (chars text) (chars rest)
chars_apart text rest plain_text plain_rest stands =
    subst (λ t. StandsApart t (chars rest)) (sym (chars-IsAscii text (ascii_from text plain_text)))
    (subst (StandsApart text) (sym (chars-IsAscii rest (ascii_from rest plain_rest))) stands)

same_text : (s : Symbol) → is_said s ≡ true → symbol_text s ≡ plain_text s
same_text (name text) e = refl
same_text (number n) e = decimal_digit n (ltb-true n 10 e)
same_text (fixed k) e = refl

-- what passing a test says of the first token, and of the others
record Passes (t : Written) (ts : List Written) : Type 0 where
  pub first : is_said t.says ≡ true
  pub gap : list_all is_white_space t.gap ≡ true
  pub ends : ends_before (plain_text t.says) (t.gap ++ plain_text_of ts) ≡ true
  pub later : are_plain ts ≡ true

passes : (t : Written) (ts : List Written) → are_plain (t ∷ ts) ≡ true → Passes t ts
passes t ts plain =
    let white = list_all is_white_space t.gap in
    let ends = ends_before (plain_text t.says) (t.gap ++ plain_text_of ts) in
    let parts = and_parts (is_said t.says) (white && (ends && are_plain ts)) plain in
    let later = and_parts white (ends && are_plain ts) parts.1 in
    let last = and_parts ends (are_plain ts) later.1 in
    record { first = parts.0; gap = later.0; ends = last.0; later = last.1 }

-- tokens that pass are written so
pub plain_is_text : (ts : List Written) → are_plain ts ≡ true → text_of ts ≡ plain_text_of ts
plain_is_text [] plain = refl
plain_is_text (t ∷ ts) plain =
    let is = passes t ts plain in
    ap₂ (λ word rest. (word ++ t.gap) ++ rest) (same_text t.says is.first) (plain_is_text ts is.later)

-- and are read as they were written
pub plain_are_readable : (ts : List Written) → are_ascii (plain_text_of ts) ≡ true → are_plain ts ≡ true
    → AreReadable 2147483647 ts
plain_are_readable [] ascii plain = tt
plain_are_readable (t ∷ ts) ascii plain =
    let is_ascii : ℕ → Bool = λ c. nat_lt c 128 in
    let word = plain_text t.says in
    let rest = plain_text_of ts in
    let is = passes t ts plain in
    let whole = and_parts _ _ (sym (list_all-append is_ascii (word ++ t.gap) rest) ∙ ascii) in
    let token = and_parts _ _ (sym (list_all-append is_ascii word t.gap) ∙ whole.0) in
    let behind : are_ascii (t.gap ++ rest) ≡ true =
    list_all-append is_ascii t.gap rest ∙ and_from _ _ token.1 whole.1 in
    let stands = chars_apart word (t.gap ++ rest) token.0 behind (apart word (t.gap ++ rest) is.ends) in (
      record {
        says = said t.says is.first;
        gap = is.gap;
        apart =
            subst (λ w. StandsApart (chars w) (chars (t.gap ++ text_of ts))) (sym (same_text t.says is.first))
            (subst (λ r. StandsApart (chars word) (chars (t.gap ++ r))) (sym (plain_is_text ts is.later)) stands);
      },
      plain_are_readable ts whole.1 is.later,
    )
