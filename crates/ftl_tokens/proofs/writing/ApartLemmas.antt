-- What a token is not gone on by: white space, and any text whose first character does not go on it.
use Rattle.std.proofs.Common.{◌≡◌, ℕ, ◌<◌, Bool, true, false, not, ◌&&◌, ◌||◌, eqb, List, [], ◌∷◌, ◌++◌}
use Rattle.std.proofs.Common.{length-append, Some, None, sym, refl, ap, ◌∙◌, subst, ⊎_elim, arith, lit<}
use Rattle.std.specs.List.{list_all, list_any}
use Rattle.std.specs.Char.{is_ascii_digit}
use Rattle.std.specs.Str.{bytes_eq}
use Rattle.std.proofs.lemmas.Bool.{and_parts, and_from, and_left, and_right, or_cases, or_left, eqb-true, cases_Bool}
use Rattle.std.proofs.lemmas.Bool.{false≢true, false_from_ne_true, cond-false, not-true}
use Rattle.std.proofs.lemmas.Slice.Eq.{bytes_eq-Decides}
use Rattle.unicode_ident.specs.Ident.{is_xid_continue}
use Rattle.unicode_ident.proofs.IdentLemmas.{is_xid_continue-ascii}
use Rattle.ftl_tokens.specs.declared.scanner.kind.Kind.{Kind}
use Rattle.ftl_tokens.specs.scanner.Kinds.{marks, look_up, begins_word, is_word, is_number, kind_of, kind_of_mark}
use Rattle.ftl_tokens.specs.scanner.Scan.{is_white_space}
use Rattle.ftl_tokens.proofs.scanner.FrontLemmas.{kind_of-word, kind_of-number, kind_of-mark, kind_of-nil}
use Rattle.ftl_tokens.proofs.scanner.KindLemmas.{begins_word-ascii, begins_text-word, begins_text-digit, digit_begins_no_word}
use Rattle.ftl_tokens.proofs.scanner.KindLemmas.{word_begins_no_number, kind_of_mark-text, kind_of_mark-long}

-- the four characters of white space
pub white_cases : (P : ℕ → Type 0) → P 32 → P 9 → P 13 → P 10 → (c : ℕ) → is_white_space c ≡ true → P c
white_cases P space tab return feed c white =
    ⊎_elim
    (λ more.
    ⊎_elim
    (λ more.
    ⊎_elim
    (λ e. subst P (sym (eqb-true c 32 e)) space)
    (λ e. subst P (sym (eqb-true c 9 e)) tab)
    (or_cases _ _ more))
    (λ e. subst P (sym (eqb-true c 13 e)) return)
    (or_cases _ _ more))
    (λ e. subst P (sym (eqb-true c 10 e)) feed)
    (or_cases _ _ white)

pub white_is_ascii : (c : ℕ) → is_white_space c ≡ true → c < 128
white_is_ascii c white = white_cases (λ n. n < 128) (lit< tt) (lit< tt) (lit< tt) (lit< tt) c white

white_continues_none : (c : ℕ) → is_white_space c ≡ true → is_xid_continue c ≡ false
white_continues_none c white =
    white_cases (λ n. is_xid_continue n ≡ false) (is_xid_continue-ascii 32 (lit< tt)) (is_xid_continue-ascii 9 (lit< tt))
    (is_xid_continue-ascii 13 (lit< tt)) (is_xid_continue-ascii 10 (lit< tt)) c white

white_is_no_digit : (c : ℕ) → is_white_space c ≡ true → is_ascii_digit c ≡ false
white_is_no_digit c white = white_cases (λ n. is_ascii_digit n ≡ false) refl refl refl refl c white

white_begins_no_word : (c : ℕ) → is_white_space c ≡ true → begins_word c ≡ false
white_begins_no_word c white =
    white_cases (λ n. begins_word n ≡ false) (begins_word-ascii 32 (lit< tt)) (begins_word-ascii 9 (lit< tt))
    (begins_word-ascii 13 (lit< tt)) (begins_word-ascii 10 (lit< tt)) c white

-- a test that fails at one of them does not hold of each
list_all-stop : (p : ℕ → Bool) (xs : List ℕ) (c : ℕ) (ys : List ℕ) → p c ≡ false → list_all p (xs ++ (c ∷ ys)) ≡ false
list_all-stop p [] c ys stops = and_left _ _ stops
list_all-stop p (x ∷ xs) c ys stops = and_right _ _ (list_all-stop p xs c ys stops)

list_all-more : (p : ℕ → Bool) (xs : List ℕ) (c : ℕ) → list_all p xs ≡ true → p c ≡ true → list_all p (xs ++ (c ∷ [])) ≡ true
list_all-more p [] c all goes = and_from _ _ goes refl
list_all-more p (x ∷ xs) c all goes =
    let parts = and_parts _ _ all in and_from _ _ parts.0 (list_all-more p xs c parts.1 goes)

list_any-one : (p : ℕ → Bool) (xs : List ℕ) (c : ℕ) (ys : List ℕ) → p c ≡ true → list_any p (xs ++ (c ∷ ys)) ≡ true
list_any-one p [] c ys holds = or_left _ _ holds
list_any-one p (x ∷ xs) c ys holds = or_right (p x) (list_any-one p xs c ys holds)
  where
    or_right : (a : Bool) {b : Bool} → b ≡ true → (a || b) ≡ true
    or_right true is = refl
    or_right false is = is

-- no text of this table has a character that passes
abbrev have_none : (ℕ → Bool) → List (List ℕ × Kind) → Bool
have_none p [] = true
have_none p (entry ∷ entries) = not (list_any p entry.0) && have_none p entries

look_up-none : (p : ℕ → Bool) (text : List ℕ) (entries : List (List ℕ × Kind)) → have_none p entries ≡ true
    → list_any p text ≡ true → look_up text entries ≡ None
look_up-none p text [] none has = refl
look_up-none p text (entry ∷ entries) none has =
    let parts = and_parts _ _ none in
    let differs : bytes_eq text entry.0 ≡ false =
    false_from_ne_true _
    (λ same. false≢true (sym (not-true _ parts.0) ∙ ap (list_any p) (sym ((bytes_eq-Decides text entry.0).0 same)) ∙ has)) in
    cond-false _ _ _ differs ∙ look_up-none p text entries parts.1 has

-- no mark has a character that passes
pub no_mark : (p : ℕ → Bool) (text : List ℕ) → have_none p marks ≡ true → list_any p text ≡ true → kind_of_mark text ≡ None
unfolding kind_of_mark
no_mark p text none has = look_up-none p text marks none has

-- no token begins with white space
pub kind_of-white : (c : ℕ) (cs : List ℕ) → is_white_space c ≡ true → kind_of (c ∷ cs) ≡ None
kind_of-white c cs white =
    kind_of-mark (c ∷ cs) (and_left _ _ (white_begins_no_word c white)) (and_left _ _ (white_is_no_digit c white))
    ∙ no_mark is_white_space (c ∷ cs) refl (or_left _ _ white)

-- no token begins with `#`
pub kind_of-hash : (cs : List ℕ) → kind_of (35 ∷ cs) ≡ None
kind_of-hash cs =
    kind_of-mark (35 ∷ cs) (and_left _ _ (begins_word-ascii 35 (lit< tt))) refl
    ∙ no_mark (λ c. eqb c 35) (35 ∷ cs) refl refl

-- no token ends with white space
pub white_stands_apart : (token : List ℕ) (c : ℕ) → is_white_space c ≡ true → kind_of (token ++ (c ∷ [])) ≡ None
white_stands_apart [] c white = kind_of-white c [] white
white_stands_apart (d ∷ ds) c white =
    kind_of-mark (d ∷ (ds ++ (c ∷ []))) (and_right _ _ (list_all-stop is_xid_continue ds c [] (white_continues_none c white)))
    (and_right _ _ (list_all-stop is_ascii_digit ds c [] (white_is_no_digit c white)))
    ∙ no_mark is_white_space (d ∷ (ds ++ (c ∷ []))) refl (list_any-one is_white_space (d ∷ ds) c [] white)

-- a mark that one character does not go on
mark_stays : (d : ℕ) (ds : List ℕ) (c : ℕ) (more : List ℕ) → kind_of_mark (d ∷ (ds ++ (c ∷ []))) ≡ None
    → kind_of_mark (d ∷ (ds ++ (c ∷ more))) ≡ None
mark_stays d [] c [] none = none
mark_stays d [] c (m ∷ more) none = kind_of_mark-long (d ∷ c ∷ m ∷ more) (omega arith)
mark_stays d (e ∷ ds) c more none =
    kind_of_mark-long (d ∷ e ∷ (ds ++ (c ∷ more))) (omega (arith, length-append ds (c ∷ more)))

-- what one character does not go on, no longer text goes on
pub stays : (token : List ℕ) (kind : Kind) (c : ℕ) (more : List ℕ) → kind_of token ≡ Some kind
    → kind_of (token ++ (c ∷ [])) ≡ None → kind_of (token ++ (c ∷ more)) ≡ None
stays [] kind c more is none = absurd (cc (kind_of-nil, is))
stays (d ∷ ds) kind c more is none =
    ⊎_elim
    (λ word.
    let parts = and_parts _ _ word in
    let stops : is_xid_continue c ≡ false =
    false_from_ne_true _
    (λ goes. absurd (cc (none, kind_of-word (d ∷ (ds ++ (c ∷ []))) (and_from _ _ parts.0 (list_all-more is_xid_continue ds c parts.1 goes))))) in
    kind_of-mark (d ∷ (ds ++ (c ∷ more))) (and_right _ _ (list_all-stop is_xid_continue ds c more stops))
    (and_left _ _ (word_begins_no_number d parts.0))
    ∙ kind_of_mark-text d (ds ++ (c ∷ more)) (begins_text-word d parts.0))
    (λ no_word.
    ⊎_elim
    (λ digits.
    let parts = and_parts _ _ digits in
    let no_letter = digit_begins_no_word d parts.0 in
    let stops : is_ascii_digit c ≡ false =
    false_from_ne_true _
    (λ goes. absurd (cc (none, kind_of-number (d ∷ (ds ++ (c ∷ []))) (and_left _ _ no_letter) (and_from _ _ parts.0 (list_all-more is_ascii_digit ds c parts.1 goes))))) in
    kind_of-mark (d ∷ (ds ++ (c ∷ more))) (and_left _ _ no_letter) (and_right _ _ (list_all-stop is_ascii_digit ds c more stops))
    ∙ kind_of_mark-text d (ds ++ (c ∷ more)) (begins_text-digit d parts.0))
    (λ no_number.
    let is_mark : kind_of_mark (d ∷ ds) ≡ Some kind = sym (kind_of-mark (d ∷ ds) no_word no_number) ∙ is in
    let no_letter : begins_word d ≡ false =
    false_from_ne_true _ (λ begins. absurd (cc (kind_of_mark-text d ds (begins_text-word d begins), is_mark))) in
    let no_digit : is_ascii_digit d ≡ false =
    false_from_ne_true _ (λ begins. absurd (cc (kind_of_mark-text d ds (begins_text-digit d begins), is_mark))) in
    let short = sym (kind_of-mark (d ∷ (ds ++ (c ∷ []))) (and_left _ _ no_letter) (and_left _ _ no_digit)) ∙ none in
    kind_of-mark (d ∷ (ds ++ (c ∷ more))) (and_left _ _ no_letter) (and_left _ _ no_digit)
    ∙ mark_stays d ds c more short)
    (cases_Bool (is_number (d ∷ ds))))
    (cases_Bool (is_word (d ∷ ds)))
