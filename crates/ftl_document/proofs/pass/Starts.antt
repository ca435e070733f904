-- What plain bytes begin with, as a pass finds it.
use Rattle.std.proofs.Common.{◌≡◌, ℕ, ◌+◌, ◌-◌, ◌<◌, ◌≤◌, Bool, true, false, cond, ◌||◌, eqb, List, [], ◌∷◌, ◌++◌, length, take, drop, get_or, Option, Some, refl, sym, ap, ap₂, ◌∙◌, subst, ⊎_elim, arith, min, ℤ, pos, neg_ℤ, None}
use Rattle.std.specs.Prelude.{IfSome}
use Rattle.std.specs.List.{prefix_len}
use Rattle.std.specs.Str.Parse.{digits_value}
use Rattle.std.proofs.Common.{take-append-drop}
use Rattle.std.proofs.lemmas.Bool.{cases_Bool, cond-true, cond-false, eqb-true, eq-eqb, ne_eqb, and_right, false≢true}
use Rattle.std.proofs.lemmas.List.{take_at, drop_at}
use Rattle.std.proofs.lemmas.List.Folds.{prefix_len-append}
use Rattle.ftl_tokens.specs.declared.scanner.kind.Kind.{Kind}
use Rattle.ftl_tokens.specs.declared.scanner.run.Run.TheVariants.{White, Word, Digits}
use Rattle.ftl_tokens.specs.scanner.Kinds.{kind_of_word}
use Rattle.ftl_tokens.specs.scanner.Run.{byte_goes_on, byte_begins_word}
use Rattle.ftl_tokens.specs.scanner.Tokenized.{name, number, fixed}
use Rattle.ftl_tokens.proofs.scanner.KindLemmas.{begins-ascii}
use Rattle.ftl_document.specs.plain.Found.{IsGapless, Starts}
use Rattle.ftl_document.specs.plain.Plain.{is_name_kind, plain_mark, plain_from, plain_tokens}
use Rattle.ftl_document.specs.pass.Good.{IsPlainName}
use Rattle.ftl_document.specs.declared.pass.tokens.InputAt.{InputAt}
use Rattle.ftl_document.specs.declared.pass.tokens.NumberAt.{NumberAt}
use Rattle.ftl_document.specs.syntax.Spelling.{plain, negative}
use Rattle.ftl_document.specs.pass.Parts.{IsInputBefore, IsNumberBefore, IsWordEnd}
use Rattle.ftl_tokens.specs.declared.scanner.kind.Kind.TheVariants.{Minus}
use Rattle.std.proofs.lemmas.Int.{ints}
use Rattle.ftl_document.proofs.plain.Fronts.{found_mark, found_number, found_word}
use Rattle.ftl_document.proofs.plain.GapSteps.{past_white, slice_behind}

-- ---- gaps

neither : (p q : Bool) → p ≡ false → q ≡ false → (p || q) ≡ false
neither true q e f = absurd (false≢true (sym e))
neither false q e f = f

pub some_bytes : (bs : List ℕ) → eqb (length bs) 0 ≡ false → 0 < length bs
some_bytes [] some = absurd (false≢true (sym some))
some_bytes (b ∷ bs) some = omega arith

-- no byte above `#` is white space
high_no_white : (b : ℕ) → 35 < b → byte_goes_on White b ≡ false
high_no_white b high =
    and_right _ _
    (neither (eqb b 32 || eqb b 9 || eqb b 13) (eqb b 10)
    (neither (eqb b 32 || eqb b 9) (eqb b 13)
    (neither (eqb b 32) (eqb b 9) (ne_eqb b 32 (λ e. absurd (omega (arith, high, e)))) (ne_eqb b 9 (λ e. absurd (omega (arith, high, e)))))
    (ne_eqb b 13 (λ e. absurd (omega (arith, high, e)))))
    (ne_eqb b 10 (λ e. absurd (omega (arith, high, e)))))

-- nor does one begin a comment
pub high_gapless : (bs : List ℕ) → 0 < length bs → 35 < get_or bs 0 0 → IsGapless bs
high_gapless [] some high = absurd (omega (arith, some))
high_gapless (b ∷ bs) some high = (high_no_white b high, ne_eqb b 35 (λ e. absurd (omega (arith, high, e))))

-- behind one blank
pub behind_blank : (greatest : ℕ) (bs : List ℕ) → eqb (length bs) 0 ≡ false → get_or bs 0 0 ≡ 32
    → plain_tokens greatest bs ≡ plain_tokens greatest (take (length bs - 1) (drop 1 bs))
behind_blank greatest [] some blank = absurd (false≢true (sym some))
behind_blank greatest (b ∷ bs) some blank =
    past_white greatest (b ∷ bs) 0 (omega arith) (ap (byte_goes_on White) blank)
    ∙ ap (plain_tokens greatest) (sym (slice_behind (b ∷ bs) 1))

-- nothing is left
pub tokens_end : (greatest : ℕ) (bs word : List ℕ) → plain_tokens greatest bs ≡ plain_tokens greatest word
    → eqb (length word) 0 ≡ true → plain_tokens greatest bs ≡ []
unfolding plain_from
tokens_end greatest bs [] same none = same
tokens_end greatest bs (b ∷ word) same none = absurd (let z : ⊥ = omega (arith, eqb-true (length (b ∷ word)) 0 none) in z)

-- ---- names

-- how far a name goes, where no word goes on behind it
run_behind : (bs rest : List ℕ) → prefix_len (byte_goes_on Word) bs ≡ length bs → IsWordEnd rest
    → prefix_len (byte_goes_on Word) (bs ++ rest) ≡ length bs
run_behind bs rest whole ends =
    prefix_len-append (byte_goes_on Word) bs rest
    ∙ cond-true _ _ _ (eq-eqb _ _ whole)
    ∙ (let none = stops rest ends in omega (arith, none))
  where
    stops : (l : List ℕ) → IsWordEnd l → prefix_len (byte_goes_on Word) l ≡ 0
    stops [] end = refl
    stops (c ∷ cs) end = cond-false (byte_goes_on Word c) (1 + prefix_len (byte_goes_on Word) cs) 0 end

pub name_found : (greatest : ℕ) (word rest text : List ℕ) → IsPlainName text → IsGapless word → word ≡ text ++ rest
    → IsWordEnd rest → plain_tokens greatest word ≡ name text ∷ plain_tokens greatest rest
name_found greatest word rest [] p gapless is ends = absurd p.begins
name_found greatest word rest (b ∷ bs) p gapless is ends =
    let whole = p.goes_on in
    let run = run_behind bs rest (omega (arith, whole)) ends in
    let n = length (b ∷ bs) in
    let front : take n ((b ∷ bs) ++ rest) ≡ b ∷ bs = take_at (b ∷ bs) rest n refl in
    ap (plain_tokens greatest) is
    ∙ found_word greatest ((b ∷ bs) ++ rest) n (subst IsGapless is gapless) p.begins (omega (arith, run))
    (ap (λ (l : List ℕ). is_name_kind (kind_of_word l)) front ∙ p.free)
    ∙ ap₂ (λ (l r : List ℕ). name l ∷ plain_tokens greatest r) front (drop_at (b ∷ bs) rest n refl)

-- the same as a call finds it
pub name_past : (greatest : ℕ) (bytes word rest text : List ℕ) → IsPlainName text
    → plain_tokens greatest bytes ≡ plain_tokens greatest word → IsGapless word → take (length text) word ≡ text
    → rest ≡ take (length word - length text) (drop (length text) word) → IsWordEnd rest
    → plain_tokens greatest bytes ≡ name text ∷ plain_tokens greatest rest
name_past greatest bytes word rest text p same gapless front is ends =
    let n = length text in
    let behind : rest ≡ drop n word = is ∙ slice_behind word n in
    same
    ∙ name_found greatest word rest text p gapless
    (sym (take-append-drop n word) ∙ ap₂ (λ (l r : List ℕ). l ++ r) front (sym behind)) ends

-- ---- marks

record Apart (b : ℕ) : Type 0 where
  no_word : byte_begins_word b ≡ false
  no_digit : byte_goes_on Digits b ≡ false

apart_by : (b n : ℕ) (mark rest : Option Kind) (kind : Kind) → Apart n → cond (eqb b n) mark rest ≡ Some kind
    → (rest ≡ Some kind → Apart b) → Apart b
apart_by b n mark rest kind apart e next =
    ⊎_elim (λ is. subst Apart (sym (eqb-true b n is)) apart) (λ no. next (sym (cond-false _ _ _ no) ∙ e))
    (cases_Bool (eqb b n))

mark_apart : (b : ℕ) (bs : List ℕ) (kind : Kind) → plain_mark b bs ≡ Some kind → Apart b
mark_apart b bs kind mark =
    apart_by b 61 _ _ kind (record { no_word = sym (begins-ascii 61); no_digit = refl }) mark
    (λ e. apart_by b 123 _ _ kind (record { no_word = sym (begins-ascii 123); no_digit = refl }) e
    (λ e. apart_by b 125 _ _ kind (record { no_word = sym (begins-ascii 125); no_digit = refl }) e
    (λ e. apart_by b 91 _ _ kind (record { no_word = sym (begins-ascii 91); no_digit = refl }) e
    (λ e. apart_by b 93 _ _ kind (record { no_word = sym (begins-ascii 93); no_digit = refl }) e
    (λ e. apart_by b 45 _ _ kind (record { no_word = sym (begins-ascii 45); no_digit = refl }) e
    (λ e. absurd (cc)))))))

pub mark_past : (greatest : ℕ) (bytes at : List ℕ) (kind : Kind) → plain_tokens greatest bytes ≡ plain_tokens greatest at
    → IsGapless at → 0 < length at
    → plain_mark (get_or at 0 0) (take (length at - 1) (drop 1 at)) ≡ Some kind
    → plain_tokens greatest bytes ≡ fixed kind ∷ plain_tokens greatest (take (length at - 1) (drop 1 at))
mark_past greatest bytes at kind same gapless some mark =
    let is : plain_mark (get_or at 0 0) (drop 1 at) ≡ Some kind =
    ap (plain_mark (get_or at 0 0)) (sym (slice_behind at 1)) ∙ mark in
    let apart = mark_apart (get_or at 0 0) (drop 1 at) kind is in
    same ∙ found_mark greatest at kind some gapless apart.no_word apart.no_digit is
    ∙ ap (λ (l : List ℕ). fixed kind ∷ plain_tokens greatest l) (sym (slice_behind at 1))

-- ---- numbers

-- the number of an input
pub input_plain : (greatest : ℕ) (bytes : List ℕ) (n : NumberAt) (value : ℤ) → IsNumberBefore greatest bytes n
    → value ≡ pos n.value → IsInputBefore greatest bytes (record { value = value; rest = n.rest })
input_plain greatest bytes n value h same =
    let few = h.small in
    subst (λ (z : ℤ). IsInputBefore greatest bytes (record { value = z; rest = n.rest })) (sym same)
    (record {
      front = number n.value ∷ [];
      spells = plain;
      input = (omega (arith, ints, few), omega (arith, ints, few));
      tokens = h.tokens;
    })

pub input_negative : (greatest : ℕ) (bytes behind : List ℕ) (n : NumberAt) (value : ℤ)
    → ((most : ℕ) → plain_tokens most bytes ≡ fixed Minus ∷ plain_tokens most behind) → IsNumberBefore greatest behind n
    → value ≡ neg_ℤ (pos n.value) → IsInputBefore greatest bytes (record { value = value; rest = n.rest })
input_negative greatest bytes behind n value minus h same =
    let few = h.small in
    subst (λ (z : ℤ). IsInputBefore greatest bytes (record { value = z; rest = n.rest })) (sym same)
    (record {
      front = fixed Minus ∷ number n.value ∷ [];
      spells = negative;
      input = (omega (arith, ints, few), omega (arith, ints, few));
      tokens = minus greatest ∙ ap (λ ts. fixed Minus ∷ ts) h.tokens;
    })

-- it may stand behind a gap
pub input_behind : (greatest : ℕ) (bytes behind : List ℕ) (o : Option InputAt)
    → ((most : ℕ) → plain_tokens most bytes ≡ plain_tokens most behind) → IfSome o (IsInputBefore greatest behind)
    → IfSome o (IsInputBefore greatest bytes)
input_behind greatest bytes behind None same h = h
input_behind greatest bytes behind (Some n) same h =
    record { front = h.front; spells = h.spells; input = h.input; tokens = same greatest ∙ h.tokens }

-- where some bytes pass, the first does
pub starts_run : (test : ℕ → Bool) (bs : List ℕ) (n : ℕ) → n ≡ prefix_len test bs → 0 < n → Starts test bs
starts_run test [] n is some = absurd (omega (arith, is, some))
starts_run test (b ∷ bs) n is some =
    ⊎_elim (λ yes. yes)
    (λ no. absurd (let none : prefix_len test (b ∷ bs) ≡ 0 = cond-false (test b) (1 + prefix_len test bs) 0 no in omega (arith, is, some, none)))
    (cases_Bool (test b))

pub number_past : (greatest : ℕ) (digits : List ℕ) (n value : ℕ) → IsGapless digits
    → n ≡ prefix_len (byte_goes_on Digits) digits → 0 < n
    → value ≡ min (digits_value 10 (take n digits)) (greatest + 1) → value ≤ greatest
    → plain_tokens greatest digits ≡ number value ∷ plain_tokens greatest (take (length digits - n) (drop n digits))
number_past greatest digits n value gapless count some is small =
    found_number greatest digits n value gapless (starts_run (byte_goes_on Digits) digits n count some) count is small
    ∙ ap (λ (l : List ℕ). number value ∷ plain_tokens greatest l) (sym (slice_behind digits n))
