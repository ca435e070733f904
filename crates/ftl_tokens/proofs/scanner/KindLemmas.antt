-- What begins a word, a number and a mark, and that these are apart.
use Rattle.std.proofs.Common.{◌≡◌, ℕ, ◌<◌, Bool, true, false, not, ◌&&◌, ◌||◌, eqb, List, [], ◌∷◌, length, get_or}
use Rattle.std.proofs.Common.{None, sym, refl, ap, ◌∙◌, ⊎_elim, arith}
use Rattle.std.specs.Prelude.{nat_le, nat_lt, encode_utf8_all}
use Rattle.std.specs.Char.{is_ascii_digit, is_ascii_alphabetic, is_ascii_alphanumeric}
use Rattle.std.specs.Str.{bytes_eq}
use Rattle.std.proofs.lemmas.Bool.{and_parts, and_left, or_left, not-true, cases_lt, cases_Bool, le-leb, le-ltb}
use Rattle.std.proofs.lemmas.Bool.{leb-true, false_from_ne_true, false≢true, cond-false, cond-true}
use Rattle.std.proofs.lemmas.Bool.Decides.{nat_tests}
use Rattle.std.proofs.lemmas.Slice.Eq.{bytes_eq-Decides}
use Rattle.std.proofs.lemmas.Str.{encodes_same}
use Rattle.unicode_ident.proofs.IdentLemmas.{is_xid_start-ascii, is_xid_continue-ascii}
use Rattle.unicode_ident.specs.Ident.{is_xid_continue}
use Rattle.ftl_tokens.specs.declared.scanner.kind.Kind.{Kind}
use Rattle.ftl_tokens.specs.declared.scanner.kind.Kind.TheVariants.{Name}
use Rattle.std.specs.Prelude.{unwrap_or}
use lib.Utf8.{encode}
use Rattle.ftl_tokens.specs.scanner.Kinds.{reserved_words, marks, look_up, begins_word, kind_of_word, kind_of_mark}

-- what may begin a word or a number, ASCII exactly and beyond it at large
abbrev pub begins_text : ℕ → Bool
begins_text c = nat_le 128 c || (is_ascii_alphabetic c || (eqb c 95 || is_ascii_digit c))

pub and_second : (a b : Bool) → a ≡ true → (a && b) ≡ false → b ≡ false
and_second true b holds fails = fails
and_second false b holds fails = absurd (false≢true holds)

pub or_true : (a b : Bool) → a ≡ true → (a || b) ≡ true
or_true true b is = refl
or_true false b is = absurd (false≢true is)

pub or_false : (a b : Bool) → a ≡ false → (a || b) ≡ b
or_false true b is = absurd (false≢true (sym is))
or_false false b is = refl

pub begins_word-ascii : (c : ℕ) → c < 128 → begins_word c ≡ (is_ascii_alphabetic c || eqb c 95)
begins_word-ascii c ascii = ap (λ b. b || eqb c 95) (is_xid_start-ascii c ascii)

-- among ASCII the letters, digits and `_` continue a word
pub continues-ascii : (c : ℕ) → (nat_lt c 128 && (is_ascii_alphanumeric c || eqb c 95)) ≡ (nat_lt c 128 && is_xid_continue c)
continues-ascii c =
    ⊎_elim
    (λ ascii. ap (λ b. nat_lt c 128 && b) (sym (is_xid_continue-ascii c ascii)))
    (λ beyond. and_left _ _ (le-ltb c 128 beyond) ∙ sym (and_left _ _ (le-ltb c 128 beyond)))
    (cases_lt c 128)

-- and the letters and `_` begin one
pub begins-ascii : (c : ℕ) → (nat_lt c 128 && (is_ascii_alphabetic c || eqb c 95)) ≡ (nat_lt c 128 && begins_word c)
begins-ascii c =
    ⊎_elim
    (λ ascii. ap (λ b. nat_lt c 128 && b) (sym (begins_word-ascii c ascii)))
    (λ beyond. and_left _ _ (le-ltb c 128 beyond) ∙ sym (and_left _ _ (le-ltb c 128 beyond)))
    (cases_lt c 128)

pub digit_begins_no_word : (c : ℕ) → is_ascii_digit c ≡ true → begins_word c ≡ false
digit_begins_no_word c digit =
    let ascii : c < 128 = grind (arith, nat_tests) in
    begins_word-ascii c ascii ∙ (let goal : (is_ascii_alphabetic c || eqb c 95) ≡ false = grind (arith, nat_tests) in goal)

pub word_begins_no_number : (c : ℕ) → begins_word c ≡ true → is_ascii_digit c ≡ false
word_begins_no_number c word =
    false_from_ne_true _ (λ digit. false≢true (sym (digit_begins_no_word c digit) ∙ word))

pub begins_text-word : (c : ℕ) → begins_word c ≡ true → begins_text c ≡ true
begins_text-word c word =
    ⊎_elim
    (λ ascii. let same = sym (begins_word-ascii c ascii) ∙ word in grind (arith, nat_tests))
    (λ beyond. or_left _ _ (le-leb 128 c beyond))
    (cases_lt c 128)

pub begins_text-digit : (c : ℕ) → is_ascii_digit c ≡ true → begins_text c ≡ true
begins_text-digit c digit = grind (arith, nat_tests)

-- no text of this table begins like a word or a number
abbrev pub begin_no_text : List (List ℕ × Kind) → Bool
begin_no_text [] = true
begin_no_text (entry ∷ entries) = not (begins_text (get_or entry.0 0 32)) && begin_no_text entries

look_up-head : (c : ℕ) (cs : List ℕ) (entries : List (List ℕ × Kind)) → begin_no_text entries ≡ true
    → begins_text c ≡ true → look_up (c ∷ cs) entries ≡ None
look_up-head c cs [] apart begins = refl
look_up-head c cs (entry ∷ entries) apart begins =
    let parts = and_parts _ _ apart in
    let differs : bytes_eq (c ∷ cs) entry.0 ≡ false =
    false_from_ne_true _
    (λ same.
    let heads : c ≡ get_or entry.0 0 32 = ap (λ (l : List ℕ). get_or l 0 32) ((bytes_eq-Decides (c ∷ cs) entry.0).0 same) in
    false≢true (sym (not-true _ parts.0) ∙ ap begins_text (sym heads) ∙ begins)) in
    cond-false _ _ _ differs ∙ look_up-head c cs entries parts.1 begins

pub kind_of_mark-text : (c : ℕ) (cs : List ℕ) → begins_text c ≡ true → kind_of_mark (c ∷ cs) ≡ None
unfolding kind_of_mark
kind_of_mark-text c cs begins = look_up-head c cs marks refl begins

-- each text of this table has at most so many characters
abbrev pub at_most : ℕ → List (List ℕ × Kind) → Bool
at_most n [] = true
at_most n (entry ∷ entries) = nat_le (length entry.0) n && at_most n entries

look_up-long : (n : ℕ) (text : List ℕ) (entries : List (List ℕ × Kind)) → at_most n entries ≡ true → n < length text
    → look_up text entries ≡ None
look_up-long n text [] short long = refl
look_up-long n text (entry ∷ entries) short long =
    let parts = and_parts _ _ short in
    let differs : bytes_eq text entry.0 ≡ false =
    false_from_ne_true _
    (λ same. absurd (omega (arith, ap length ((bytes_eq-Decides text entry.0).0 same), leb-true (length entry.0) n parts.0))) in
    cond-false _ _ _ differs ∙ look_up-long n text entries parts.1 long

pub kind_of_mark-long : (text : List ℕ) → 2 < length text → kind_of_mark text ≡ None
unfolding kind_of_mark
kind_of_mark-long text long = look_up-long 2 text marks refl long

-- each text of this table is its own UTF-8
abbrev pub are_ascii : List (List ℕ × Kind) → Bool
are_ascii [] = true
are_ascii (entry ∷ entries) = bytes_eq (encode_utf8_all entry.0) entry.0 && are_ascii entries

look_up-encodes : (cs : List ℕ) (entries : List (List ℕ × Kind)) → are_ascii entries ≡ true
    → look_up (encode_utf8_all cs) entries ≡ look_up cs entries
look_up-encodes cs [] ascii = refl
look_up-encodes cs (entry ∷ entries) ascii =
    let parts = and_parts _ _ ascii in
    let own = (bytes_eq-Decides (encode_utf8_all entry.0) entry.0).0 parts.0 in
    let rest = look_up-encodes cs entries parts.1 in
    ⊎_elim
    (λ same.
    let text = (bytes_eq-Decides cs entry.0).0 same in
    cond-true _ _ _ ((bytes_eq-Decides (encode_utf8_all cs) entry.0).1 (ap encode_utf8_all text ∙ own)) ∙ sym (cond-true _ _ _ same))
    (λ differs.
    let apart : bytes_eq (encode_utf8_all cs) entry.0 ≡ false =
    false_from_ne_true _
    (λ same.
    let text = encodes_same cs entry.0 ((bytes_eq-Decides (encode_utf8_all cs) entry.0).0 same ∙ sym own) in
    false≢true (sym differs ∙ (bytes_eq-Decides cs entry.0).1 text)) in
    cond-false _ _ _ apart ∙ rest ∙ sym (cond-false _ _ _ differs))
    (cases_Bool (bytes_eq cs entry.0))

reserved_words_are_ascii : are_ascii reserved_words ≡ true
unfolding encode
reserved_words_are_ascii = refl

-- a word has its kind by its bytes as by its characters
pub kind_of_word-encodes : (cs : List ℕ) → kind_of_word (encode_utf8_all cs) ≡ kind_of_word cs
unfolding kind_of_word
kind_of_word-encodes cs = ap (λ found. unwrap_or found Name) (look_up-encodes cs reserved_words reserved_words_are_ascii)
