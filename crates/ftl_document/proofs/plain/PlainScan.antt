-- Where the tokens of plain bytes don't stop, they are those of the scan.
use Rattle.std.proofs.Common.{◌≡◌, ℕ, zero, suc, ◌+◌, ◌-◌, ◌<◌, ◌≤◌, Bool, true, false, cond, ◌&&◌, eqb, List, [], ◌∷◌, ◌++◌}
use Rattle.std.proofs.Common.{length, take, drop, map, Option, Some, None, Ok, ◌⊎◌, inl, inr, sym, refl, ap, ◌∙◌, subst, ⊎_elim, arith}
use Rattle.std.proofs.Common.{length-append, length-drop, append_assoc, take-append-drop, lit<}
use Rattle.std.specs.Prelude.{nat_lt, encode_utf8_all}
use Rattle.std.specs.Str.{IsAscii, chars}
use Rattle.std.proofs.lemmas.Str.{chars-IsAscii, encodes-chars, IsUtf8-from_ascii}
use Rattle.std.specs.List.{list_all, prefix_len, slice_range}
use Rattle.std.specs.Char.{is_ascii_digit}
use Rattle.std.proofs.lemmas.Bool.{cond-true, cond-false, cases_Bool, cases_lt, eqb-true, and_parts, and_from, and_left, and_right}
use Rattle.std.proofs.lemmas.Bool.{ltb-true, lt-ltb, le-ltb, ne_eqb, false_from_ne_true, not-false}
use Rattle.std.proofs.lemmas.List.{take_at, drop_at}
use Rattle.ftl_tokens.specs.declared.scanner.kind.Kind.{Kind}
use Rattle.ftl_tokens.specs.declared.scanner.kind.Kind.TheVariants.{Name, Number, LeftBrace, RightBrace, LeftBracket}
use Rattle.ftl_tokens.specs.declared.scanner.kind.Kind.TheVariants.{RightBracket, Minus, Equals, EqualEqual}
use Rattle.ftl_tokens.specs.declared.scanner.kind.Token.{Token}
use Rattle.ftl_tokens.specs.declared.scanner.run.Run.{Run}
use Rattle.ftl_tokens.specs.declared.scanner.run.Run.TheVariants.{White, Word, Digits, Comment}
use Rattle.ftl_tokens.specs.scanner.Kinds.{kind_of, kind_of_word, kind_of_mark, begins_word}
use Rattle.ftl_tokens.specs.scanner.Run.{goes_on, byte_goes_on, byte_begins_word}
use Rattle.ftl_tokens.specs.scanner.Scan.{Front, gap, token, nothing, token_if, is_too_large, stays_in_line}
use Rattle.ftl_tokens.specs.scanner.Scan.{byte_length, scan}
use Rattle.ftl_tokens.specs.scanner.Scans.{IsLineEnd, IsGap, white_space, comment, IsLongestToken, Scans, at_end, past_gap, past_token}
use Rattle.ftl_tokens.specs.scanner.Tokenized.{Symbol, fixed, symbol, symbol_of, symbols_of}
use Rattle.ftl_tokens.specs.reading.Reader.{Tokens}
use Rattle.ftl_tokens.specs.writing.Written.{StandsApart}
use Rattle.ftl_tokens.proofs.scanner.FrontLemmas.{list_all-run, kind_of-word, kind_of-number, kind_of-mark}
use Rattle.ftl_tokens.proofs.scanner.KindLemmas.{begins_word-ascii, begins_text-word, begins_text-digit, digit_begins_no_word}
use Rattle.ftl_tokens.proofs.scanner.KindLemmas.{word_begins_no_number, kind_of_mark-text, and_second}
use Rattle.ftl_tokens.proofs.scanner.OneScan.{agrees}
use Rattle.ftl_tokens.proofs.writing.ApartLemmas.{stays}
use Rattle.ftl_document.specs.plain.Plain.{equals_before, plain_mark, name_front, plain_front, stopped, plain_by}
use Rattle.ftl_document.specs.plain.Plain.{plain_from, plain_tokens}

-- ---- the tokens after a front

-- the bytes of what stands before are passed over
from-skip : (greatest n : ℕ) (bs : List ℕ) → plain_from greatest n bs ≡ plain_from greatest 0 (drop n bs)
unfolding plain_from
from-skip greatest zero bs = refl
from-skip greatest (suc n) [] = refl
from-skip greatest (suc n) (b ∷ bs) = from-skip greatest n bs

-- a front has a byte
abbrev pub HasByte : Front → Type 0
HasByte (gap n) = 0 < n
HasByte (token kind n) = 0 < n
HasByte nothing = Unit {0}

step_by : (greatest b : ℕ) (bs : List ℕ) (f : Front) → HasByte f
    → plain_by greatest (b ∷ bs) f (λ n. plain_from greatest (n - 1) bs)
    ≡ plain_by greatest (b ∷ bs) f (λ n. plain_from greatest 0 (drop n (b ∷ bs)))
step_by greatest b bs (gap zero) has = absurd (omega (arith, has))
step_by greatest b bs (gap (suc n)) has =
    let one : suc n - 1 ≡ n = omega arith in ap (λ k. plain_from greatest k bs) one ∙ from-skip greatest n bs
step_by greatest b bs (token kind zero) has = absurd (omega (arith, has))
step_by greatest b bs (token kind (suc n)) has =
    let one : suc n - 1 ≡ n = omega arith in
    ap (λ ts. cond (is_too_large greatest kind (take (suc n) (b ∷ bs))) stopped (symbol kind (take (suc n) (b ∷ bs)) ∷ ts))
    (ap (λ k. plain_from greatest k bs) one ∙ from-skip greatest n bs)
step_by greatest b bs nothing has = refl

-- the tokens at some bytes, by what stands at their front
pub plain_step : (greatest b : ℕ) (bs : List ℕ) (f : Front) → plain_front (b ∷ bs) ≡ f → HasByte f
    → plain_tokens greatest (b ∷ bs)
    ≡ plain_by greatest (b ∷ bs) f (λ n. plain_from greatest 0 (drop n (b ∷ bs)))
unfolding plain_from
plain_step greatest b bs f front has =
    ap (λ g. plain_by greatest (b ∷ bs) g (λ n. plain_from greatest (n - 1) bs)) front ∙ step_by greatest b bs f has

-- ---- fronts, by the first byte

pub white_front : (b : ℕ) (bs : List ℕ) → byte_goes_on White b ≡ true → plain_front (b ∷ bs) ≡ gap 1
unfolding plain_front
white_front b bs white = cond-true _ _ _ white

pub comment_front : (b : ℕ) (bs : List ℕ) → byte_goes_on White b ≡ false → eqb b 35 ≡ true
    → plain_front (b ∷ bs) ≡ gap (suc (prefix_len (byte_goes_on Comment) bs))
unfolding plain_front
comment_front b bs white hash = cond-false _ _ _ white ∙ cond-true _ _ _ hash

pub word_front : (b : ℕ) (bs : List ℕ) → byte_goes_on White b ≡ false → eqb b 35 ≡ false → byte_begins_word b ≡ true
    → plain_front (b ∷ bs)
    ≡ name_front (kind_of_word (b ∷ take (prefix_len (byte_goes_on Word) bs) bs)) (suc (prefix_len (byte_goes_on Word) bs))
unfolding plain_front
word_front b bs white hash word = cond-false _ _ _ white ∙ cond-false _ _ _ hash ∙ cond-true _ _ _ word

pub number_front : (b : ℕ) (bs : List ℕ) → byte_goes_on White b ≡ false → eqb b 35 ≡ false → byte_begins_word b ≡ false
    → byte_goes_on Digits b ≡ true → plain_front (b ∷ bs) ≡ token Number (suc (prefix_len (byte_goes_on Digits) bs))
unfolding plain_front
number_front b bs white hash word digit =
    cond-false _ _ _ white ∙ cond-false _ _ _ hash ∙ cond-false _ _ _ word ∙ cond-true _ _ _ digit

pub mark_front : (b : ℕ) (bs : List ℕ) → byte_goes_on White b ≡ false → eqb b 35 ≡ false → byte_begins_word b ≡ false
    → byte_goes_on Digits b ≡ false → plain_front (b ∷ bs) ≡ token_if (plain_mark b bs) 1
unfolding plain_front
mark_front b bs white hash word digit =
    cond-false _ _ _ white ∙ cond-false _ _ _ hash ∙ cond-false _ _ _ word ∙ cond-false _ _ _ digit

-- ---- tokens that go on to the end

-- the tokens don't stop before the end
pub record GoesOn (ts : Tokens) : Type 0 where
  pub no_stop : (front : Tokens) → ts ≡ front ++ stopped → ⊥

goes_on-later : (x : Symbol) (ts : Tokens) → GoesOn (x ∷ ts) → GoesOn ts
goes_on-later x ts goes = record { no_stop = λ front e. goes.no_stop (x ∷ front) (ap (λ l. x ∷ l) e) }

no_stop-here : (ts : Tokens) → ts ≡ stopped → GoesOn ts → ⊥
no_stop-here ts e goes = goes.no_stop [] e

-- what is not ASCII stops them
beyond : (b : ℕ) (bs : List ℕ) → 128 ≤ b → plain_front (b ∷ bs) ≡ nothing
unfolding plain_front
beyond b bs far =
    let no : nat_lt b 128 ≡ false = le-ltb b 128 far in
    let differs : (n : ℕ) → n < 128 → eqb b n ≡ false = λ n small. ne_eqb b n (λ e. absurd (omega (arith, far, small, e))) in
    mark_front b bs (and_left _ _ no) (differs 35 (lit< tt)) (and_left _ _ no) (and_left _ _ no)
    ∙ ap (λ o. token_if o 1)
    (cond-false _ _ _ (differs 61 (lit< tt)) ∙ cond-false _ _ _ (differs 123 (lit< tt)) ∙ cond-false _ _ _ (differs 125 (lit< tt))
    ∙ cond-false _ _ _ (differs 91 (lit< tt)) ∙ cond-false _ _ _ (differs 93 (lit< tt)) ∙ cond-false _ _ _ (differs 45 (lit< tt)))

first_ascii : (greatest b : ℕ) (bs : List ℕ) → GoesOn (plain_tokens greatest (b ∷ bs)) → b < 128
first_ascii greatest b bs goes =
    ⊎_elim (λ ascii. ascii)
    (λ far. absurd (no_stop-here _ (plain_step greatest b bs nothing (beyond b bs far) tt) goes))
    (cases_lt b 128)

-- ---- what stands behind a run

stops_at : (p : ℕ → Bool) (bs : List ℕ) (c : ℕ) (cs : List ℕ) → drop (prefix_len p bs) bs ≡ c ∷ cs → p c ≡ false
stops_at p [] c cs e = absurd (cc)
stops_at p (b ∷ bs) c cs e =
    ⊎_elim
    (λ goes.
    let more : prefix_len p (b ∷ bs) ≡ suc (prefix_len p bs) = omega (arith, cond-true (p b) (1 + prefix_len p bs) 0 goes) in
    stops_at p bs c cs (sym (ap (λ n. drop n (b ∷ bs)) more) ∙ e))
    (λ stops.
    let none : prefix_len p (b ∷ bs) ≡ 0 = cond-false (p b) (1 + prefix_len p bs) 0 stops in
    let same : b ∷ bs ≡ c ∷ cs = sym (ap (λ n. drop n (b ∷ bs)) none) ∙ e in
    let first : b ≡ c = cc in
    ap p (sym first) ∙ stops)
    (cases_Bool (p b))

list_all-stop : (p : ℕ → Bool) (xs : List ℕ) (c : ℕ) (ys : List ℕ) → p c ≡ false → list_all p (xs ++ (c ∷ ys)) ≡ false
list_all-stop p [] c ys stops = and_left _ _ stops
list_all-stop p (x ∷ xs) c ys stops = and_right _ _ (list_all-stop p xs c ys stops)

list_all-wider : (p q : ℕ → Bool) → ((c : ℕ) → p c ≡ true → q c ≡ true) → (xs : List ℕ) → list_all p xs ≡ true → list_all q xs ≡ true
list_all-wider p q wider [] all = refl
list_all-wider p q wider (x ∷ xs) all =
    let parts = and_parts _ _ all in and_from _ _ (wider x parts.0) (list_all-wider p q wider xs parts.1)

list_all-append : (p : ℕ → Bool) (xs ys : List ℕ) → list_all p xs ≡ true → list_all p ys ≡ true → list_all p (xs ++ ys) ≡ true
list_all-append p [] ys xs_all ys_all = ys_all
list_all-append p (x ∷ xs) ys xs_all ys_all =
    let parts = and_parts _ _ xs_all in and_from _ _ parts.0 (list_all-append p xs ys parts.1 ys_all)

-- an ASCII character
abbrev is_ascii : ℕ → Bool
is_ascii c = nat_lt c 128

pub ascii_of : (bs : List ℕ) → list_all is_ascii bs ≡ true → IsAscii bs
ascii_of [] all i = omega arith
ascii_of (b ∷ bs) all zero = ltb-true b 128 (and_parts _ _ all).0
ascii_of (b ∷ bs) all (suc i) = ascii_of bs (and_parts _ _ all).1 i

ascii_length : (bs : List ℕ) → list_all is_ascii bs ≡ true → byte_length bs ≡ length bs
ascii_length bs all =
    let ascii = ascii_of bs all in
    ap length (ap encode_utf8_all (sym (chars-IsAscii bs ascii)) ∙ encodes-chars bs (IsUtf8-from_ascii bs ascii))

run_ascii : (run : Run) (bs : List ℕ) → list_all is_ascii (take (prefix_len (byte_goes_on run) bs) bs) ≡ true
run_ascii run bs =
    list_all-wider (byte_goes_on run) is_ascii (λ c goes. (and_parts _ _ goes).0)
    (take (prefix_len (byte_goes_on run) bs) bs)
    (list_all-run (byte_goes_on run) (prefix_len (byte_goes_on run) bs) bs (omega arith))

-- ---- longest tokens

apart_by : (text rest : List ℕ) → ((c : ℕ) (cs : List ℕ) → rest ≡ c ∷ cs → kind_of (text ++ (c ∷ [])) ≡ None) → StandsApart text rest
apart_by text [] each = tt
apart_by text (c ∷ cs) each = each c cs refl

longest_from : (kind : Kind) (text rest : List ℕ) → kind_of text ≡ Some kind → StandsApart text rest → IsLongestToken kind text rest
longest_from kind text rest is apart = record { is_token = is; longest = by }
  where
    by : (more after : List ℕ) → rest ≡ more ++ after → 0 < length more → kind_of (text ++ more) ≡ None
    by [] after split some = absurd (omega arith)
    by (c ∷ more) after split some = stays text kind c more is (subst (StandsApart text) split apart)

-- a byte that does not go on a run of ASCII, before what goes on to the end
stops_run : (greatest : ℕ) (run : Run) (bs : List ℕ) (c : ℕ) (cs : List ℕ) → drop (prefix_len (byte_goes_on run) bs) bs ≡ c ∷ cs
    → GoesOn (plain_tokens greatest (drop (prefix_len (byte_goes_on run) bs) bs)) → goes_on run c ≡ false
stops_run greatest run bs c cs e goes =
    let ascii = first_ascii greatest c cs (subst (λ l. GoesOn (plain_tokens greatest l)) e goes) in
    and_second _ _ (lt-ltb c 128 ascii) (stops_at (byte_goes_on run) bs c cs e)

word_longest : (greatest b : ℕ) (bs : List ℕ) → byte_begins_word b ≡ true
    → GoesOn (plain_tokens greatest (drop (prefix_len (byte_goes_on Word) bs) bs))
    → IsLongestToken (kind_of_word (b ∷ take (prefix_len (byte_goes_on Word) bs) bs)) (b ∷ take (prefix_len (byte_goes_on Word) bs) bs) (drop (prefix_len (byte_goes_on Word) bs) bs)
word_longest greatest b bs word goes =
    let run = take (prefix_len (byte_goes_on Word) bs) bs in
    let begins = (and_parts _ _ word).1 in
    let all = list_all-wider (byte_goes_on Word) (goes_on Word) (λ c more. (and_parts _ _ more).1) run
    (list_all-run (byte_goes_on Word) (prefix_len (byte_goes_on Word) bs) bs (omega arith)) in
    longest_from _ (b ∷ run) _ (kind_of-word (b ∷ run) (and_from _ _ begins all))
    (apart_by (b ∷ run) _ (λ c cs e.
    kind_of-mark (b ∷ (run ++ (c ∷ []))) (and_right _ _ (list_all-stop (goes_on Word) run c [] (stops_run greatest Word bs c cs e goes)))
    (and_left _ _ (word_begins_no_number b begins))
    ∙ kind_of_mark-text b (run ++ (c ∷ [])) (begins_text-word b begins)))

number_longest : (greatest b : ℕ) (bs : List ℕ) → byte_goes_on Digits b ≡ true
    → GoesOn (plain_tokens greatest (drop (prefix_len (byte_goes_on Digits) bs) bs))
    → IsLongestToken Number (b ∷ take (prefix_len (byte_goes_on Digits) bs) bs) (drop (prefix_len (byte_goes_on Digits) bs) bs)
number_longest greatest b bs number goes =
    let run = take (prefix_len (byte_goes_on Digits) bs) bs in
    let digit = (and_parts _ _ number).1 in
    let no_letter = digit_begins_no_word b digit in
    let all = list_all-wider (byte_goes_on Digits) is_ascii_digit (λ c more. (and_parts _ _ more).1) run
    (list_all-run (byte_goes_on Digits) (prefix_len (byte_goes_on Digits) bs) bs (omega arith)) in
    longest_from _ (b ∷ run) _ (kind_of-number (b ∷ run) (and_left _ _ no_letter) (and_from _ _ digit all))
    (apart_by (b ∷ run) _ (λ c cs e.
    kind_of-mark (b ∷ (run ++ (c ∷ []))) (and_left _ _ no_letter)
    (and_right _ _ (list_all-stop is_ascii_digit run c [] (stops_run greatest Digits bs c cs e goes)))
    ∙ kind_of_mark-text b (run ++ (c ∷ [])) (begins_text-digit b digit)))

-- ---- marks

-- a mark that what follows does not go on
pub record MarkAt (b : ℕ) (bs : List ℕ) (kind : Kind) : Type 0 where
  pub is : kind_of (b ∷ []) ≡ Some kind
  pub apart : StandsApart (b ∷ []) bs
  pub ascii : b < 128
  pub small : (greatest : ℕ) → is_too_large greatest kind (b ∷ []) ≡ false

mark_kind : (b : ℕ) (bs : List ℕ) (kind : Option Kind) → begins_word b ≡ false → is_ascii_digit b ≡ false
    → kind_of_mark (b ∷ bs) ≡ kind → kind_of (b ∷ bs) ≡ kind
mark_kind b bs kind no_letter no_digit mark = kind_of-mark (b ∷ bs) (and_left _ _ no_letter) (and_left _ _ no_digit) ∙ mark

right_brace : (bs : List ℕ) → MarkAt 125 bs RightBrace
unfolding kind_of_mark
right_brace bs =
    let no_letter = begins_word-ascii 125 (lit< tt) in
    record {
      is = mark_kind 125 [] (Some RightBrace) no_letter refl refl;
      apart = apart_by (125 ∷ []) bs (λ c cs e. mark_kind 125 (c ∷ []) None no_letter refl refl);
      ascii = lit< tt;
      small = λ greatest. refl;
    }

left_brace : (bs : List ℕ) → MarkAt 123 bs LeftBrace
unfolding kind_of_mark
left_brace bs =
    let no_letter = begins_word-ascii 123 (lit< tt) in
    record {
      is = mark_kind 123 [] (Some LeftBrace) no_letter refl refl;
      apart = apart_by (123 ∷ []) bs (λ c cs e. mark_kind 123 (c ∷ []) None no_letter refl refl);
      ascii = lit< tt;
      small = λ greatest. refl;
    }

left_bracket : (bs : List ℕ) → MarkAt 91 bs LeftBracket
unfolding kind_of_mark
left_bracket bs =
    let no_letter = begins_word-ascii 91 (lit< tt) in
    record {
      is = mark_kind 91 [] (Some LeftBracket) no_letter refl refl;
      apart = apart_by (91 ∷ []) bs (λ c cs e. mark_kind 91 (c ∷ []) None no_letter refl refl);
      ascii = lit< tt;
      small = λ greatest. refl;
    }

right_bracket : (bs : List ℕ) → MarkAt 93 bs RightBracket
unfolding kind_of_mark
right_bracket bs =
    let no_letter = begins_word-ascii 93 (lit< tt) in
    record {
      is = mark_kind 93 [] (Some RightBracket) no_letter refl refl;
      apart = apart_by (93 ∷ []) bs (λ c cs e. mark_kind 93 (c ∷ []) None no_letter refl refl);
      ascii = lit< tt;
      small = λ greatest. refl;
    }

minus : (bs : List ℕ) → MarkAt 45 bs Minus
unfolding kind_of_mark
minus bs =
    let no_letter = begins_word-ascii 45 (lit< tt) in
    record {
      is = mark_kind 45 [] (Some Minus) no_letter refl refl;
      apart = apart_by (45 ∷ []) bs (λ c cs e. mark_kind 45 (c ∷ []) None no_letter refl refl);
      ascii = lit< tt;
      small = λ greatest. refl;
    }

equals_short : (c : ℕ) → eqb c 61 ≡ false → kind_of_mark (61 ∷ c ∷ []) ≡ None
unfolding kind_of_mark
equals_short c no_second = ap (λ b. cond (b && true) (Some EqualEqual) None) no_second

equals : (bs : List ℕ) → equals_before bs ≡ Some Equals → MarkAt 61 bs Equals
unfolding kind_of_mark
equals bs alone =
    let no_letter = begins_word-ascii 61 (lit< tt) in
    record {
      is = mark_kind 61 [] (Some Equals) no_letter refl refl;
      apart = apart_by (61 ∷ []) bs
          (λ c cs e.
          mark_kind 61 (c ∷ []) None no_letter refl (equals_short c (no_second c cs (sym (ap equals_before e) ∙ alone))));
      ascii = lit< tt;
      small = λ greatest. refl;
    }
  where
    no_second : (c : ℕ) (cs : List ℕ) → equals_before (c ∷ cs) ≡ Some Equals → eqb c 61 ≡ false
    no_second c cs alone =
        false_from_ne_true _
        (λ second. let none : None ≡ Some Equals = sym (cond-true (eqb c 61) None (Some Equals) second) ∙ alone in absurd (cc))

-- a mark of documents, as a token
pub record MarkToken (b : ℕ) (bs : List ℕ) (kind : Kind) : Type 0 where
  pub at : MarkAt b bs kind
  pub says : symbol kind (b ∷ []) ≡ fixed kind

-- the byte is this one, and so the mark is that
this_mark : (b n : ℕ) (bs : List ℕ) (kind found : Kind) → eqb b n ≡ true → MarkAt n bs found
    → symbol found (n ∷ []) ≡ fixed found → Some found ≡ Some kind → MarkToken b bs kind
this_mark b n bs kind found is at says same =
    let first : n ≡ b = sym (eqb-true b n is) in
    let one : found ≡ kind = cc in
    subst (λ k. MarkToken b bs k) one (subst (λ m. MarkToken m bs found) first (record { at = at; says = says }))

pub mark_token : (b : ℕ) (bs : List ℕ) (kind : Kind) → plain_mark b bs ≡ Some kind → MarkToken b bs kind
mark_token b bs kind mark =
    ⊎_elim
    (λ is.
    let alone = sym (cond-true _ _ _ is) ∙ mark in
    let one : equals_before bs ≡ Some Equals = equals_only bs kind alone in
    this_mark b 61 bs kind Equals is (equals bs one) refl (sym one ∙ alone))
    (λ not_61.
    let mark_1 = sym (cond-false _ _ _ not_61) ∙ mark in
    ⊎_elim (λ is. this_mark b 123 bs kind LeftBrace is (left_brace bs) refl (sym (cond-true _ _ _ is) ∙ mark_1))
    (λ not_123.
    let mark_2 = sym (cond-false _ _ _ not_123) ∙ mark_1 in
    ⊎_elim (λ is. this_mark b 125 bs kind RightBrace is (right_brace bs) refl (sym (cond-true _ _ _ is) ∙ mark_2))
    (λ not_125.
    let mark_3 = sym (cond-false _ _ _ not_125) ∙ mark_2 in
    ⊎_elim (λ is. this_mark b 91 bs kind LeftBracket is (left_bracket bs) refl (sym (cond-true _ _ _ is) ∙ mark_3))
    (λ not_91.
    let mark_4 = sym (cond-false _ _ _ not_91) ∙ mark_3 in
    ⊎_elim (λ is. this_mark b 93 bs kind RightBracket is (right_bracket bs) refl (sym (cond-true _ _ _ is) ∙ mark_4))
    (λ not_93.
    let mark_5 = sym (cond-false _ _ _ not_93) ∙ mark_4 in
    ⊎_elim (λ is. this_mark b 45 bs kind Minus is (minus bs) refl (sym (cond-true _ _ _ is) ∙ mark_5))
    (λ not_45. let none : None ≡ Some kind = sym (cond-false _ _ _ not_45) ∙ mark_5 in absurd (cc))
    (cases_Bool (eqb b 45)))
    (cases_Bool (eqb b 93)))
    (cases_Bool (eqb b 91)))
    (cases_Bool (eqb b 125)))
    (cases_Bool (eqb b 123)))
    (cases_Bool (eqb b 61))
  where
    equals_only : (more : List ℕ) (k : Kind) → equals_before more ≡ Some k → equals_before more ≡ Some Equals
    equals_only [] k e = refl
    equals_only (c ∷ cs) k e =
        ⊎_elim (λ second. let none : None ≡ Some k = sym (cond-true _ _ _ second) ∙ e in absurd (cc))
        (λ alone. cond-false _ _ _ alone)
        (cases_Bool (eqb c 61))

-- ---- the scan

-- what the scan finds in some bytes of a text, behind others
pub record PlainScan (greatest : ℕ) (text front bs : List ℕ) : Type 0 where
  pub ascii : list_all is_ascii bs ≡ true
  pub tokens : List Token
  pub scans : Scans greatest (length front) bs (Ok tokens)
  pub few : length tokens ≤ length bs
  pub said : map (symbol_of text) tokens ≡ plain_tokens greatest bs

seam_text : (text front word rest : List ℕ) → text ≡ front ++ (word ++ rest)
    → slice_range text (length front) (length front + length word) ≡ word
seam_text text front word rest split =
    let count : length front + length word - length front ≡ length word = omega arith in
    ap (λ n. take n (drop (length front) text)) count
    ∙ ap (λ l. take (length word) l) (ap (drop (length front)) split ∙ drop_at front (word ++ rest) (length front) refl)
    ∙ take_at word rest (length word) refl

module _ (greatest : ℕ) (text front bs : List ℕ) (split : text ≡ front ++ bs) (n : ℕ)
    (ascii : list_all is_ascii (take n bs) ≡ true) (later : PlainScan greatest text (front ++ take n bs) (drop n bs)) where
  place : length (front ++ take n bs) ≡ length front + byte_length (take n bs)
  place = omega (arith, length-append front (take n bs), ascii_length (take n bs) ascii)

  all_ascii : list_all is_ascii bs ≡ true
  all_ascii = subst (λ l. list_all is_ascii l ≡ true) (take-append-drop n bs) (list_all-append is_ascii (take n bs) (drop n bs) ascii later.ascii)

  later_scans : Scans greatest (length front + byte_length (take n bs)) (drop n bs) (Ok later.tokens)
  later_scans = subst (λ k. Scans greatest k (drop n bs) (Ok later.tokens)) place later.scans

  past_gap-plain : IsGap (take n bs) (drop n bs) → plain_tokens greatest bs ≡ plain_tokens greatest (drop n bs)
      → PlainScan greatest text front bs
  past_gap-plain is same = record {
    ascii = all_ascii;
    tokens = later.tokens;
    scans = subst (λ l. Scans greatest (length front) l (Ok later.tokens)) (take-append-drop n bs) (past_gap is later_scans);
    few = omega (arith, later.few, length-drop n bs);
    said = later.said ∙ sym same;
  }

  past_token-plain : (kind : Kind) → length (drop n bs) < length bs → IsLongestToken kind (take n bs) (drop n bs) → is_too_large greatest kind (take n bs) ≡ false
      → plain_tokens greatest bs ≡ symbol kind (take n bs) ∷ plain_tokens greatest (drop n bs)
      → PlainScan greatest text front bs
  past_token-plain kind shorter is small same =
      let this : Token = record { kind = kind; start = length front; end = length front + byte_length (take n bs) } in
      let whole : text ≡ front ++ (take n bs ++ drop n bs) = split ∙ ap (λ l. front ++ l) (sym (take-append-drop n bs)) in
      let said : slice_range text (length front) (length front + byte_length (take n bs)) ≡ take n bs =
      ap (λ k. slice_range text (length front) (length front + k)) (ascii_length (take n bs) ascii)
      ∙ seam_text text front (take n bs) (drop n bs) whole in
      record {
        ascii = all_ascii;
        tokens = this ∷ later.tokens;
        scans = subst (λ l. Scans greatest (length front) l (Ok (this ∷ later.tokens))) (take-append-drop n bs) (past_token is small later_scans);
        few = omega (arith, later.few, shorter);
        said = ap (λ w. symbol kind w ∷ map (symbol_of text) later.tokens) said ∙ ap (λ l. symbol kind (take n bs) ∷ l) later.said ∙ sym same;
      }

name_cases : (k : Kind) (n : ℕ) → (k ≡ Name) ⊎ (name_front k n ≡ nothing)
name_cases Name n = inl refl
name_cases _ n = inr refl

line_end : (greatest : ℕ) (bs : List ℕ) → GoesOn (plain_tokens greatest (drop (prefix_len (byte_goes_on Comment) bs) bs))
    → IsLineEnd (drop (prefix_len (byte_goes_on Comment) bs) bs)
line_end greatest bs goes = by (drop (prefix_len (byte_goes_on Comment) bs) bs) refl
  where
    by : (rest : List ℕ) → drop (prefix_len (byte_goes_on Comment) bs) bs ≡ rest → IsLineEnd rest
    by [] e = tt
    by (c ∷ cs) e = eqb-true c 10 (not-false _ (stops_run greatest Comment bs c cs e goes))

module _ (greatest : ℕ) (text front : List ℕ) (b : ℕ) (bs : List ℕ) (split : text ≡ front ++ (b ∷ bs))
    (goes : GoesOn (plain_tokens greatest (b ∷ bs)))
    (again : (n : ℕ) → GoesOn (plain_tokens greatest (drop n bs))
    → PlainScan greatest text (front ++ take (suc n) (b ∷ bs)) (drop n bs)) where
  at_white : byte_goes_on White b ≡ true → PlainScan greatest text front (b ∷ bs)
  at_white white =
      let parts = and_parts _ _ white in
      let step = plain_step greatest b bs (gap 1) (white_front b bs white) (omega arith) in
      past_gap-plain greatest text front (b ∷ bs) split 1 (and_from _ _ parts.0 refl) (again 0 (subst GoesOn step goes))
      (white_space parts.1 refl) step

  at_comment : byte_goes_on White b ≡ false → eqb b 35 ≡ true → PlainScan greatest text front (b ∷ bs)
  at_comment white hash =
      let run = prefix_len (byte_goes_on Comment) bs in
      let is : 35 ≡ b = sym (eqb-true b 35 hash) in
      let step = plain_step greatest b bs (gap (suc run)) (comment_front b bs white hash) (omega arith) in
      let goes_later = subst GoesOn step goes in
      let ascii : is_ascii b ≡ true = ap is_ascii (sym is) in
      past_gap-plain greatest text front (b ∷ bs) split (suc run) (and_from _ _ ascii (run_ascii Comment bs)) (again run goes_later)
      (subst (λ c. IsGap (c ∷ take run bs) (drop run bs)) is
      (comment (list_all-wider (byte_goes_on Comment) stays_in_line (λ c more. (and_parts _ _ more).1) (take run bs)
      (list_all-run (byte_goes_on Comment) run bs (omega arith))) (line_end greatest bs goes_later)))
      step

  -- a token that is not too large
  at_token : (kind : Kind) (n : ℕ) → plain_front (b ∷ bs) ≡ token kind (suc n) → list_all is_ascii (take (suc n) (b ∷ bs)) ≡ true
      → (GoesOn (plain_tokens greatest (drop n bs)) → IsLongestToken kind (take (suc n) (b ∷ bs)) (drop n bs))
      → PlainScan greatest text front (b ∷ bs)
  at_token kind n front_is ascii longest =
      let step = plain_step greatest b bs (token kind (suc n)) front_is (omega arith) in
      ⊎_elim (λ large. absurd (no_stop-here _ (step ∙ cond-true _ _ _ large) goes))
      (λ small.
      let same = step ∙ cond-false _ _ _ small in
      let goes_later = goes_on-later _ _ (subst GoesOn same goes) in
      past_token-plain greatest text front (b ∷ bs) split (suc n) ascii (again n goes_later) kind (omega (arith, length-drop n bs)) (longest goes_later) small same)
      (cases_Bool (is_too_large greatest kind (take (suc n) (b ∷ bs))))

  at_word : byte_goes_on White b ≡ false → eqb b 35 ≡ false → byte_begins_word b ≡ true → PlainScan greatest text front (b ∷ bs)
  at_word white hash word =
      let run = prefix_len (byte_goes_on Word) bs in
      let kind = kind_of_word (b ∷ take run bs) in
      let front_is = word_front b bs white hash word in
      ⊎_elim
      (λ is_name.
      at_token Name run (front_is ∙ ap (λ k. name_front k (suc run)) is_name)
      (and_from _ _ (and_parts _ _ word).0 (run_ascii Word bs))
      (λ later. subst (λ k. IsLongestToken k (b ∷ take run bs) (drop run bs)) is_name (word_longest greatest b bs word later)))
      (λ none. absurd (no_stop-here _ (plain_step greatest b bs nothing (front_is ∙ none) tt) goes))
      (name_cases kind (suc run))

  at_number : byte_goes_on White b ≡ false → eqb b 35 ≡ false → byte_begins_word b ≡ false → byte_goes_on Digits b ≡ true
      → PlainScan greatest text front (b ∷ bs)
  at_number white hash word digit =
      at_token Number (prefix_len (byte_goes_on Digits) bs) (number_front b bs white hash word digit)
      (and_from _ _ (and_parts _ _ digit).0 (run_ascii Digits bs)) (number_longest greatest b bs digit)

  at_mark : byte_goes_on White b ≡ false → eqb b 35 ≡ false → byte_begins_word b ≡ false → byte_goes_on Digits b ≡ false
      → PlainScan greatest text front (b ∷ bs)
  at_mark white hash word digit = by (plain_mark b bs) refl
    where
      front_is : plain_front (b ∷ bs) ≡ token_if (plain_mark b bs) 1
      front_is = mark_front b bs white hash word digit

      by : (found : Option Kind) → plain_mark b bs ≡ found → PlainScan greatest text front (b ∷ bs)
      by None e = absurd (no_stop-here _ (plain_step greatest b bs nothing (front_is ∙ ap (λ o. token_if o 1) e) tt) goes)
      by (Some kind) e =
          let mark = (mark_token b bs kind e).at in
          at_token kind 0 (front_is ∙ ap (λ o. token_if o 1) e) (and_from _ _ (lt-ltb b 128 mark.ascii) refl)
          (λ later. longest_from kind (b ∷ []) bs mark.is mark.apart)

  at_byte : PlainScan greatest text front (b ∷ bs)
  at_byte =
      ⊎_elim at_white
      (λ white.
      ⊎_elim (at_comment white)
      (λ hash.
      ⊎_elim (at_word white hash)
      (λ word. ⊎_elim (at_number white hash word) (at_mark white hash word) (cases_Bool (byte_goes_on Digits b)))
      (cases_Bool (byte_begins_word b)))
      (cases_Bool (eqb b 35)))
      (cases_Bool (byte_goes_on White b))

-- at most so many bytes are left
scan_within : (greatest left : ℕ) (text front bs : List ℕ) → length bs ≤ left → text ≡ front ++ bs
    → GoesOn (plain_tokens greatest bs) → PlainScan greatest text front bs
unfolding plain_from
scan_within greatest left text front [] few split goes = record { ascii = refl; tokens = []; scans = at_end; few = omega arith; said = refl }
scan_within greatest zero text front (b ∷ bs) few split goes = absurd (omega (arith, few))
scan_within greatest (suc left) text front (b ∷ bs) few split goes =
    at_byte greatest text front b bs split goes
    (λ n later.
    scan_within greatest left text (front ++ take (suc n) (b ∷ bs)) (drop n bs) (omega (arith, few, length-drop n bs))
    (split ∙ ap (λ l. front ++ l) (sym (take-append-drop (suc n) (b ∷ bs))) ∙ sym (append_assoc front (take (suc n) (b ∷ bs)) (drop n bs)))
    later)

-- the tokens of a text that don't stop are those of its scan
pub record IsScanned (greatest : ℕ) (text : List ℕ) : Type 0 where
  pub tokens : List Token
  pub scanned : scan greatest text ≡ Ok tokens
  pub few : length tokens ≤ length text
  pub said : symbols_of (record { text = text; tokens = tokens }) ≡ plain_tokens greatest text

pub plain_scanned : (greatest : ℕ) (text : List ℕ) → GoesOn (plain_tokens greatest text) → IsScanned greatest text
plain_scanned greatest text goes =
    let all = scan_within greatest (length text) text [] text (omega arith) refl goes in
    let same : text ≡ chars text = sym (chars-IsAscii text (ascii_of text all.ascii)) in
    record {
      tokens = all.tokens;
      scanned = sym (agrees greatest text (Ok all.tokens) (subst (λ l. Scans greatest 0 l (Ok all.tokens)) same all.scans));
      few = all.few;
      said = all.said;
    }
