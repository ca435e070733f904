-- The longest token at the front of some characters, by what the first of them begins.
use Rattle.std.proofs.Common.{◌≡◌, ℕ, zero, suc, ◌+◌, ◌<◌, ◌≤◌, Bool, true, false, List, [], ◌∷◌, length, take}
use Rattle.std.proofs.Common.{Option, Some, None, sym, refl, ap, ◌∙◌, ⊎_elim, arith, lit<, length-take-le}
use Rattle.std.specs.Option.{is_some}
use Rattle.std.specs.List.{list_all, prefix_len}
use Rattle.std.specs.Char.{is_ascii_digit}
use Rattle.std.proofs.lemmas.Bool.{and_from, and_left, and_right, cases_lt, cases_Bool, cond-false, cond-true}
use Rattle.std.proofs.lemmas.Bool.{or_cases, eqb-true, false≢true}
use Rattle.unicode_ident.specs.Ident.{is_xid_continue}
use Rattle.unicode_ident.proofs.IdentLemmas.{is_xid_start-is_xid_continue, is_xid_continue-ascii}
use Rattle.ftl_tokens.specs.declared.scanner.kind.Kind.{Kind}
use Rattle.ftl_tokens.specs.declared.scanner.kind.Kind.TheVariants.{Number}
use Rattle.ftl_tokens.specs.scanner.Kinds.{begins_word, is_word, is_number, kind_of, kind_of_word, kind_of_mark}
use Rattle.ftl_tokens.specs.scanner.Scan.{last_passing, longest_token, token_front, token_if, token}
use Rattle.ftl_tokens.specs.scanner.Piece.{StartsWord, StartsNumber}
use Rattle.ftl_tokens.proofs.scanner.KindLemmas.{digit_begins_no_word, word_begins_no_number, begins_text-word}
use Rattle.ftl_tokens.proofs.scanner.KindLemmas.{begins_text-digit, kind_of_mark-text, kind_of_mark-long}

-- where nothing above m passes the test, the last is at most m
last_passing-from : (test : ℕ → Bool) (n m : ℕ) → m ≤ n → ((k : ℕ) → m < k → k ≤ n → test k ≡ false)
    → last_passing test n ≡ last_passing test m
unfolding last_passing
last_passing-from test zero m within above = let same : 0 ≡ m = omega arith in ap (last_passing test) same
last_passing-from test (suc n) m within above =
    ⊎_elim
    (λ below. cond-false (test (suc n)) (suc n) (last_passing test n) (above (suc n) below (omega arith)) ∙ last_passing-from test n m (omega arith) (λ k low high. above k low (omega arith)))
    (λ at. let same : suc n ≡ m = omega arith in ap (last_passing test) same)
    (cases_lt m (suc n))

last_passing-suc : (test : ℕ → Bool) (m : ℕ) → test (suc m) ≡ true → last_passing test (suc m) ≡ suc m
unfolding last_passing
last_passing-suc test m passes = cond-true _ _ _ passes

-- within a run each element passes, and past it one does not
pub list_all-run : (p : ℕ → Bool) (n : ℕ) (xs : List ℕ) → n ≤ prefix_len p xs → list_all p (take n xs) ≡ true
list_all-run p zero xs within = refl
list_all-run p (suc n) [] within = refl
list_all-run p (suc n) (x ∷ xs) within =
    ⊎_elim
    (λ goes. and_from _ _ goes (list_all-run p n xs (omega (arith, cond-true (p x) (1 + prefix_len p xs) 0 goes))))
    (λ stops. absurd (omega (arith, cond-false (p x) (1 + prefix_len p xs) 0 stops)))
    (cases_Bool (p x))

list_all-past : (p : ℕ → Bool) (n : ℕ) (xs : List ℕ) → prefix_len p xs < n → n ≤ length xs
    → list_all p (take n xs) ≡ false
list_all-past p zero xs past within = absurd (omega arith)
list_all-past p (suc n) [] past within = absurd (omega arith)
list_all-past p (suc n) (x ∷ xs) past within =
    ⊎_elim
    (λ goes. and_right _ _ (list_all-past p n xs (omega (arith, cond-true (p x) (1 + prefix_len p xs) 0 goes)) (omega arith)))
    (λ stops. and_left _ _ stops)
    (cases_Bool (p x))

pub prefix_len-le : (p : ℕ → Bool) (xs : List ℕ) → prefix_len p xs ≤ length xs
prefix_len-le p [] = omega arith
prefix_len-le p (x ∷ xs) =
    ⊎_elim
    (λ goes. omega (arith, cond-true (p x) (1 + prefix_len p xs) 0 goes, prefix_len-le p xs))
    (λ stops. omega (arith, cond-false (p x) (1 + prefix_len p xs) 0 stops))
    (cases_Bool (p x))

prefix_len-suc : (p : ℕ → Bool) (x : ℕ) (xs : List ℕ) → p x ≡ true → prefix_len p (x ∷ xs) ≡ suc (prefix_len p xs)
prefix_len-suc p x xs goes = omega (arith, cond-true (p x) (1 + prefix_len p xs) 0 goes)

-- the kind of a text that is a word, a number, or neither
pub kind_of-word : (text : List ℕ) → is_word text ≡ true → kind_of text ≡ Some (kind_of_word text)
unfolding kind_of
kind_of-word text word = cond-true _ _ _ word

pub kind_of-number : (text : List ℕ) → is_word text ≡ false → is_number text ≡ true → kind_of text ≡ Some Number
unfolding kind_of
kind_of-number text no_word number = cond-false _ _ _ no_word ∙ cond-true _ _ _ number

pub kind_of-mark : (text : List ℕ) → is_word text ≡ false → is_number text ≡ false → kind_of text ≡ kind_of_mark text
unfolding kind_of
kind_of-mark text no_word no_number = cond-false _ _ _ no_word ∙ cond-false _ _ _ no_number

abbrev is_token : List ℕ → ℕ → Bool
is_token cs n = is_some (kind_of (take n cs))

-- no token is longer than the run of a word
past_word : (c : ℕ) (cs : List ℕ) → begins_word c ≡ true → (k : ℕ) → suc (prefix_len is_xid_continue cs) < k
    → k ≤ length (c ∷ cs) → is_token (c ∷ cs) k ≡ false
past_word c cs word zero past within = absurd (omega arith)
past_word c cs word (suc k) past within =
    ap is_some
    (kind_of-mark (c ∷ take k cs) (and_right _ _ (list_all-past is_xid_continue k cs (omega arith) (omega arith))) (and_left _ _ (word_begins_no_number c word))
    ∙ kind_of_mark-text c (take k cs) (begins_text-word c word))

longest_token-word : (c : ℕ) (cs : List ℕ) → begins_word c ≡ true
    → longest_token (c ∷ cs) ≡ suc (prefix_len is_xid_continue cs)
unfolding longest_token
longest_token-word c cs word =
    let run = prefix_len is_xid_continue cs in
    let is_run = kind_of-word (c ∷ take run cs) (and_from _ _ word (list_all-run is_xid_continue run cs (omega arith))) in
    last_passing-from (is_token (c ∷ cs)) (length (c ∷ cs)) (suc run) (omega (arith, prefix_len-le is_xid_continue cs)) (past_word c cs word)
    ∙ last_passing-suc (is_token (c ∷ cs)) run (ap is_some is_run)

-- what begins a word also continues one
begins_word-continues : (c : ℕ) → begins_word c ≡ true → is_xid_continue c ≡ true
begins_word-continues c word =
    ⊎_elim
    (λ starts. is_xid_start-is_xid_continue c starts)
    (λ underscore. let is_95 = eqb-true c 95 underscore in ap is_xid_continue is_95 ∙ is_xid_continue-ascii 95 (lit< tt))
    (or_cases _ _ word)

pub word_front : (cs : List ℕ) → StartsWord cs
    → token_front cs (longest_token cs) ≡ token (kind_of_word (take (prefix_len is_xid_continue cs) cs)) (prefix_len is_xid_continue cs)
word_front [] word = absurd word
word_front (c ∷ cs) word =
    let run = prefix_len is_xid_continue cs in
    let is_run = kind_of-word (c ∷ take run cs) (and_from _ _ word (list_all-run is_xid_continue run cs (omega arith))) in
    ap (token_front (c ∷ cs)) (longest_token-word c cs word)
    ∙ ap (λ kind. token_if kind (suc run)) is_run
    ∙ ap (λ n. token (kind_of_word (take n (c ∷ cs))) n) (sym (prefix_len-suc is_xid_continue c cs (begins_word-continues c word)))

pub word_starts_run : (cs : List ℕ) → StartsWord cs → 0 < prefix_len is_xid_continue cs
word_starts_run [] word = absurd word
word_starts_run (c ∷ cs) word = omega (arith, prefix_len-suc is_xid_continue c cs (begins_word-continues c word))

-- no token is longer than the run of a number
past_number : (c : ℕ) (cs : List ℕ) → is_ascii_digit c ≡ true → (k : ℕ) → suc (prefix_len is_ascii_digit cs) < k
    → k ≤ length (c ∷ cs) → is_token (c ∷ cs) k ≡ false
past_number c cs digit zero past within = absurd (omega arith)
past_number c cs digit (suc k) past within =
    ap is_some
    (kind_of-mark (c ∷ take k cs) (and_left _ _ (digit_begins_no_word c digit)) (and_right _ _ (list_all-past is_ascii_digit k cs (omega arith) (omega arith)))
    ∙ kind_of_mark-text c (take k cs) (begins_text-digit c digit))

number_run : (c : ℕ) (cs : List ℕ) → is_ascii_digit c ≡ true
    → kind_of (c ∷ take (prefix_len is_ascii_digit cs) cs) ≡ Some Number
number_run c cs digit =
    kind_of-number (c ∷ take (prefix_len is_ascii_digit cs) cs) (and_left _ _ (digit_begins_no_word c digit))
    (and_from _ _ digit (list_all-run is_ascii_digit (prefix_len is_ascii_digit cs) cs (omega arith)))

longest_token-number : (c : ℕ) (cs : List ℕ) → is_ascii_digit c ≡ true
    → longest_token (c ∷ cs) ≡ suc (prefix_len is_ascii_digit cs)
unfolding longest_token
longest_token-number c cs digit =
    let run = prefix_len is_ascii_digit cs in
    last_passing-from (is_token (c ∷ cs)) (length (c ∷ cs)) (suc run) (omega (arith, prefix_len-le is_ascii_digit cs)) (past_number c cs digit)
    ∙ last_passing-suc (is_token (c ∷ cs)) run (ap is_some (number_run c cs digit))

pub number_front : (cs : List ℕ) → StartsNumber cs
    → token_front cs (longest_token cs) ≡ token Number (prefix_len is_ascii_digit cs)
number_front [] digit = absurd digit
number_front (c ∷ cs) digit =
    ap (token_front (c ∷ cs)) (longest_token-number c cs digit)
    ∙ ap (λ kind. token_if kind (suc (prefix_len is_ascii_digit cs))) (number_run c cs digit)
    ∙ ap (token Number) (sym (prefix_len-suc is_ascii_digit c cs digit))

pub digit_starts_run : (cs : List ℕ) → StartsNumber cs → 0 < prefix_len is_ascii_digit cs
digit_starts_run [] digit = absurd digit
digit_starts_run (c ∷ cs) digit = omega (arith, prefix_len-suc is_ascii_digit c cs digit)

pub run_is_number : (cs : List ℕ) → StartsNumber cs → is_number (take (prefix_len is_ascii_digit cs) cs) ≡ true
run_is_number [] digit = absurd digit
run_is_number (c ∷ cs) digit =
    ap (λ n. is_number (take n (c ∷ cs))) (prefix_len-suc is_ascii_digit c cs digit)
    ∙ and_from _ _ digit (list_all-run is_ascii_digit (prefix_len is_ascii_digit cs) cs (omega arith))

-- what begins neither a word nor a number is a token where it is a mark
other_kind : (c : ℕ) (cs : List ℕ) → begins_word c ≡ false → is_ascii_digit c ≡ false
    → kind_of (c ∷ cs) ≡ kind_of_mark (c ∷ cs)
other_kind c cs no_word no_digit = kind_of-mark (c ∷ cs) (and_left _ _ no_word) (and_left _ _ no_digit)

past_mark : (c : ℕ) (cs : List ℕ) → begins_word c ≡ false → is_ascii_digit c ≡ false → (k : ℕ) → 2 < k
    → k ≤ length (c ∷ cs) → is_token (c ∷ cs) k ≡ false
past_mark c cs no_word no_digit zero past within = absurd (omega arith)
past_mark c cs no_word no_digit (suc k) past within =
    ap is_some (other_kind c (take k cs) no_word no_digit ∙ kind_of_mark-long (c ∷ take k cs) (omega (arith, length-take-le k cs (omega arith))))

pub none-from_is_some : {A : Type 0} → (o : Option A) → is_some o ≡ false → o ≡ None
none-from_is_some None none = refl
none-from_is_some (Some x) none = absurd (false≢true (sym none))

pub kind_of-nil : kind_of [] ≡ None
unfolding kind_of kind_of_mark
kind_of-nil = refl

-- a mark of one character, where no longer token begins there
front_of_one : (c : ℕ) (cs : List ℕ) → begins_word c ≡ false → is_ascii_digit c ≡ false
    → longest_token (c ∷ cs) ≡ last_passing (is_token (c ∷ cs)) 1
    → token_front (c ∷ cs) (longest_token (c ∷ cs)) ≡ token_if (kind_of_mark (c ∷ [])) 1
unfolding last_passing
front_of_one c cs no_word no_digit one =
    let kind = other_kind c [] no_word no_digit in
    ⊎_elim
    (λ is_mark. ap (token_front (c ∷ cs)) (one ∙ cond-true _ _ _ is_mark) ∙ ap (λ found. token_if found 1) kind)
    (λ is_none.
    ap (token_front (c ∷ cs)) (one ∙ cond-false _ _ _ is_none)
    ∙ ap (λ found. token_if found 0) kind_of-nil
    ∙ ap (λ found. token_if found 1) (sym (none-from_is_some (kind_of (c ∷ [])) is_none) ∙ kind))
    (cases_Bool (is_some (kind_of (c ∷ []))))

-- one character alone
pub mark_front-last : (c : ℕ) → begins_word c ≡ false → is_ascii_digit c ≡ false
    → token_front (c ∷ []) (longest_token (c ∷ [])) ≡ token_if (kind_of_mark (c ∷ [])) 1
unfolding longest_token
mark_front-last c no_word no_digit = front_of_one c [] no_word no_digit refl

-- a mark of two characters
pub mark_front-long : (c d : ℕ) (cs : List ℕ) (kind : Kind) → begins_word c ≡ false → is_ascii_digit c ≡ false
    → kind_of_mark (c ∷ d ∷ []) ≡ Some kind → token_front (c ∷ d ∷ cs) (longest_token (c ∷ d ∷ cs)) ≡ token kind 2
unfolding longest_token
mark_front-long c d cs kind no_word no_digit mark =
    let all = c ∷ d ∷ cs in
    let found : kind_of (c ∷ d ∷ []) ≡ Some kind = other_kind c (d ∷ []) no_word no_digit ∙ mark in
    let two = last_passing-from (is_token all) (length all) 2 (omega arith) (past_mark c (d ∷ cs) no_word no_digit) ∙ last_passing-suc (is_token all) 1 (ap is_some found) in
    ap (token_front all) two ∙ ap (λ k. token_if k 2) found

-- no mark of two characters
pub mark_front-short : (c d : ℕ) (cs : List ℕ) → begins_word c ≡ false → is_ascii_digit c ≡ false
    → kind_of_mark (c ∷ d ∷ []) ≡ None
    → token_front (c ∷ d ∷ cs) (longest_token (c ∷ d ∷ cs)) ≡ token_if (kind_of_mark (c ∷ [])) 1
unfolding longest_token last_passing
mark_front-short c d cs no_word no_digit none =
    let all = c ∷ d ∷ cs in
    let two = last_passing-from (is_token all) (length all) 2 (omega arith) (past_mark c (d ∷ cs) no_word no_digit) in
    let one = cond-false (is_token all 2) 2 (last_passing (is_token all) 1) (ap is_some (other_kind c (d ∷ []) no_word no_digit ∙ none)) in
    front_of_one c (d ∷ cs) no_word no_digit (two ∙ one)
