-- What comes next in plain bytes, by the first of them.
use Rattle.std.proofs.Common.{◌≡◌, ℕ, suc, ◌+◌, ◌<◌, ◌≤◌, Bool, true, false, min, List, [], ◌∷◌, length, take, drop, get_or}
use Rattle.std.proofs.Common.{Some, None, sym, refl, ap, ◌∙◌, subst, arith}
use Rattle.std.specs.List.{prefix_len}
use Rattle.std.specs.Prelude.{nat_lt}
use Rattle.std.specs.Str.{IsUtf8, IsCharBoundary}
use Rattle.std.specs.Str.Parse.{digits_value}
use Rattle.std.proofs.lemmas.List.{nil_from_length}
use Rattle.std.proofs.lemmas.List.Sums.{prefix_len-le-length}
use Rattle.std.proofs.lemmas.Bool.{and_parts, and_right, cond-true, cond-false, le-ltb, lt-ltb, ltb-true, false≢true}
use Rattle.ftl_tokens.specs.declared.scanner.kind.Kind.{Kind}
use Rattle.ftl_tokens.specs.declared.scanner.kind.Kind.TheVariants.{Name, Number, Bang}
use Rattle.ftl_tokens.specs.declared.scanner.run.Run.{Run}
use Rattle.ftl_tokens.specs.declared.scanner.run.Run.TheVariants.{Word, Digits}
use Rattle.ftl_tokens.specs.scanner.Kinds.{kind_of_word}
use Rattle.ftl_tokens.specs.scanner.Run.{byte_goes_on, byte_begins_word}
use Rattle.ftl_tokens.specs.scanner.Scan.{nothing, token, token_if}
use Rattle.ftl_tokens.specs.scanner.Tokenized.{name, number, fixed}
use Rattle.ftl_tokens.proofs.scanner.KindLemmas.{digit_begins_no_word}
use Rattle.ftl_document.specs.plain.Plain.{is_name_kind, name_front, plain_mark, plain_from, plain_tokens, stopped}
use Rattle.ftl_document.specs.plain.Found.{IsFoundIn, IsGapless, IsSmall, Starts, with_next}
use Rattle.ftl_document.specs.declared.plain.next.Next.TheVariants.{End, Mark}
use Rattle.ftl_document.specs.declared.plain.next.Found.{Found}
use Rattle.ftl_document.proofs.plain.GapSteps.{boundary_past}
use Rattle.ftl_document.proofs.plain.PlainScan.{plain_step, word_front, number_front, mark_front, mark_token}

is_name-from : (k : Kind) → is_name_kind k ≡ true → k ≡ Name
is_name-from Name is = refl
is_name-from _ is = absurd (false≢true is)

no_name-from : (k : Kind) (n : ℕ) → is_name_kind k ≡ false → name_front k n ≡ nothing
no_name-from Name n is = absurd (false≢true (sym is))
no_name-from _ n is = refl

-- a name
pub found_word : (greatest : ℕ) (text : List ℕ) (n : ℕ) → IsGapless text → Starts byte_begins_word text
    → n ≡ 1 + prefix_len (byte_goes_on Word) (drop 1 text) → is_name_kind (kind_of_word (take n text)) ≡ true
    → plain_tokens greatest text ≡ name (take n text) ∷ plain_tokens greatest (drop n text)
found_word greatest [] n gapless starts count is = absurd starts
found_word greatest (b ∷ bs) n gapless starts count is =
    let run = prefix_len (byte_goes_on Word) bs in
    let whole : suc run ≡ n = omega (arith, count) in
    let named : kind_of_word (b ∷ take run bs) ≡ Name =
    is_name-from _ (ap (λ k. is_name_kind (kind_of_word (take k (b ∷ bs)))) whole ∙ is) in
    plain_step greatest b bs (token Name (suc run))
    (word_front b bs gapless.0 gapless.1 starts ∙ ap (λ k. name_front k (suc run)) named) (omega arith)
    ∙ ap (λ k. name (take k (b ∷ bs)) ∷ plain_tokens greatest (drop k (b ∷ bs))) whole

-- a reserved word
pub reserved_word : (greatest : ℕ) (text : List ℕ) (n : ℕ) → IsGapless text → Starts byte_begins_word text
    → n ≡ 1 + prefix_len (byte_goes_on Word) (drop 1 text) → is_name_kind (kind_of_word (take n text)) ≡ false
    → plain_tokens greatest text ≡ stopped
reserved_word greatest [] n gapless starts count is = absurd starts
reserved_word greatest (b ∷ bs) n gapless starts count is =
    let run = prefix_len (byte_goes_on Word) bs in
    let whole : suc run ≡ n = omega (arith, count) in
    plain_step greatest b bs nothing
    (word_front b bs gapless.0 gapless.1 starts
    ∙ no_name-from _ (suc run) (ap (λ k. is_name_kind (kind_of_word (take k (b ∷ bs)))) whole ∙ is)) tt

no_word_before : (b : ℕ) → byte_goes_on Digits b ≡ true → byte_begins_word b ≡ false
no_word_before b digit = and_right _ _ (digit_begins_no_word b (and_parts _ _ digit).1)

digits-more : (b : ℕ) (bs : List ℕ) → byte_goes_on Digits b ≡ true
    → prefix_len (byte_goes_on Digits) (b ∷ bs) ≡ suc (prefix_len (byte_goes_on Digits) bs)
digits-more b bs digit = omega (arith, cond-true (byte_goes_on Digits b) (1 + prefix_len (byte_goes_on Digits) bs) 0 digit)

-- a number that is not above the greatest
pub found_number : (greatest : ℕ) (text : List ℕ) (n value : ℕ) → IsGapless text → Starts (byte_goes_on Digits) text
    → n ≡ prefix_len (byte_goes_on Digits) text → value ≡ min (digits_value 10 (take n text)) (greatest + 1)
    → value ≤ greatest → plain_tokens greatest text ≡ number value ∷ plain_tokens greatest (drop n text)
found_number greatest [] n value gapless starts count is small = absurd starts
found_number greatest (b ∷ bs) n value gapless starts count is small =
    let run = prefix_len (byte_goes_on Digits) bs in
    let whole : suc run ≡ n = omega (arith, count, digits-more b bs starts) in
    let same : digits_value 10 (take (suc run) (b ∷ bs)) ≡ value =
    ap (λ k. digits_value 10 (take k (b ∷ bs))) whole ∙ omega (arith, is, small) in
    plain_step greatest b bs (token Number (suc run))
    (number_front b bs gapless.0 gapless.1 (no_word_before b starts) starts) (omega arith)
    ∙ cond-false _ _ _ (le-ltb greatest _ (omega (arith, same, small)))
    ∙ ap (λ v. number v ∷ plain_tokens greatest (drop (suc run) (b ∷ bs))) same
    ∙ ap (λ k. number value ∷ plain_tokens greatest (drop k (b ∷ bs))) whole

-- one that is
pub large_number : (greatest : ℕ) (text : List ℕ) (n value : ℕ) → IsGapless text → Starts (byte_goes_on Digits) text
    → n ≡ prefix_len (byte_goes_on Digits) text → value ≡ min (digits_value 10 (take n text)) (greatest + 1)
    → greatest < value → plain_tokens greatest text ≡ stopped
large_number greatest [] n value gapless starts count is large = absurd starts
large_number greatest (b ∷ bs) n value gapless starts count is large =
    let run = prefix_len (byte_goes_on Digits) bs in
    let whole : suc run ≡ n = omega (arith, count, digits-more b bs starts) in
    let same : digits_value 10 (take (suc run) (b ∷ bs)) ≡ digits_value 10 (take n (b ∷ bs)) =
    ap (λ k. digits_value 10 (take k (b ∷ bs))) whole in
    plain_step greatest b bs (token Number (suc run))
    (number_front b bs gapless.0 gapless.1 (no_word_before b starts) starts) (omega arith)
    ∙ cond-true _ _ _ (lt-ltb greatest _ (omega (arith, same, is, large)))

-- a mark of documents
pub found_mark : (greatest : ℕ) (text : List ℕ) (kind : Kind) → 0 < length text → IsGapless text
    → byte_begins_word (get_or text 0 0) ≡ false → byte_goes_on Digits (get_or text 0 0) ≡ false
    → plain_mark (get_or text 0 0) (drop 1 text) ≡ Some kind
    → plain_tokens greatest text ≡ fixed kind ∷ plain_tokens greatest (drop 1 text)
found_mark greatest [] kind some gapless word digit mark = absurd (omega (arith, some))
found_mark greatest (b ∷ bs) kind some gapless word digit mark =
    let is = mark_token b bs kind mark in
    plain_step greatest b bs (token kind 1)
    (mark_front b bs gapless.0 gapless.1 word digit ∙ ap (λ o. token_if o 1) mark) (omega arith)
    ∙ cond-false _ _ _ (is.at.small greatest)
    ∙ ap (λ s. s ∷ plain_tokens greatest bs) is.says

-- anything else
pub other_mark : (greatest : ℕ) (text : List ℕ) → 0 < length text → IsGapless text
    → byte_begins_word (get_or text 0 0) ≡ false → byte_goes_on Digits (get_or text 0 0) ≡ false
    → plain_mark (get_or text 0 0) (drop 1 text) ≡ None → plain_tokens greatest text ≡ stopped
other_mark greatest [] some gapless word digit mark = absurd (omega (arith, some))
other_mark greatest (b ∷ bs) some gapless word digit mark =
    plain_step greatest b bs nothing
    (mark_front b bs gapless.0 gapless.1 word digit ∙ ap (λ o. token_if o 1) mark) tt

-- what is not plain
pub found_stop : (greatest : ℕ) (text : List ℕ) (found : Found) → found.next ≡ Mark Bang → length found.rest.now ≡ 0
    → plain_tokens greatest text ≡ stopped → IsFoundIn greatest text found
unfolding plain_from
found_stop greatest text found next rest stops =
    let none : plain_tokens greatest found.rest.now ≡ [] = ap (plain_tokens greatest) (nil_from_length found.rest.now rest) in
    record {
      tokens = stops ∙ ap (λ ts. fixed Bang ∷ ts) (sym none) ∙ ap (λ n. with_next n (plain_tokens greatest found.rest.now)) (sym next);
      small = subst IsSmall (sym next) tt;
    }

-- a text that begins so
pub starts : (test : ℕ → Bool) (text bytes : List ℕ) → bytes ≡ text → 0 < length text → test (get_or bytes 0 0) ≡ true
    → Starts test text
starts test [] bytes same some is = absurd (omega (arith, some))
starts test (b ∷ bs) bytes same some is = ap (λ l. test (get_or l 0 0)) (sym same) ∙ is

-- the end of a run behind its first byte
pub boundary_behind : (run : Run) (text : List ℕ) (n : ℕ) → IsUtf8 text → Starts (λ b. nat_lt b 128) text
    → n ≡ 1 + prefix_len (byte_goes_on run) (drop 1 text) → IsCharBoundary text n
boundary_behind run [] n utf8 first count = absurd first
boundary_behind run (b ∷ bs) n utf8 first count =
    let place : 0 + (1 + prefix_len (byte_goes_on run) bs) ≡ n = omega (arith, count) in
    subst (IsCharBoundary (b ∷ bs)) place
    (boundary_past run (b ∷ bs) 0 (prefix_len (byte_goes_on run) bs) utf8 (omega arith) (ltb-true b 128 first) refl)

pub word_first : (text : List ℕ) → Starts byte_begins_word text → Starts (λ b. nat_lt b 128) text
word_first [] word = word
word_first (b ∷ bs) word = (and_parts _ _ word).0

pub digit_first : (text : List ℕ) → Starts (byte_goes_on Digits) text → Starts (λ b. nat_lt b 128) text
digit_first [] digit = digit
digit_first (b ∷ bs) digit = (and_parts _ _ digit).0

pub digits_behind : (text : List ℕ) (n : ℕ) → Starts (byte_goes_on Digits) text → n ≡ prefix_len (byte_goes_on Digits) text
    → n ≡ 1 + prefix_len (byte_goes_on Digits) (drop 1 text)
digits_behind [] n digit count = absurd digit
digits_behind (b ∷ bs) n digit count = omega (arith, count, digits-more b bs digit)

-- no fewer bytes than a run
pub word_within : (text : List ℕ) → Starts byte_begins_word text
    → 1 + prefix_len (byte_goes_on Word) (drop 1 text) ≤ length text
word_within [] word = absurd word
word_within (b ∷ bs) word = omega (arith, prefix_len-le-length (byte_goes_on Word) bs)

-- a mark is ASCII
pub mark_first : (b : ℕ) (bs : List ℕ) (kind : Kind) → plain_mark b bs ≡ Some kind → b < 128
mark_first b bs kind mark = (mark_token b bs kind mark).at.ascii

-- a gap of a text is that of its bytes
pub same_of_bytes : (text bytes : List ℕ) (n : ℕ) → bytes ≡ text
    → ((greatest : ℕ) → plain_tokens greatest bytes ≡ plain_tokens greatest (drop n bytes))
    → (greatest : ℕ) → plain_tokens greatest text ≡ plain_tokens greatest (drop n text)
same_of_bytes text bytes n is same greatest =
    subst (λ (l : List ℕ). plain_tokens greatest l ≡ plain_tokens greatest (drop n l)) is (same greatest)

-- behind a gap
pub found_behind : (greatest : ℕ) (text rest : List ℕ) (n : ℕ) (found : Found) → rest ≡ drop n text
    → plain_tokens greatest text ≡ plain_tokens greatest (drop n text) → IsFoundIn greatest rest found
    → IsFoundIn greatest text found
found_behind greatest text rest n found is same behind = record {
  tokens = same ∙ ap (plain_tokens greatest) (sym is) ∙ behind.tokens;
  small = behind.small;
}

-- at the end
pub found_end : (greatest : ℕ) (text : List ℕ) (found : Found) → found.next ≡ End → length text ≡ 0 → IsFoundIn greatest text found
unfolding plain_from
found_end greatest text found next none = record {
  tokens =
      ap (plain_tokens greatest) (nil_from_length text none)
      ∙ ap (λ n. with_next n (plain_tokens greatest found.rest.now)) (sym next);
  small = subst IsSmall (sym next) tt;
}
