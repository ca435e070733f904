-- The scan follows the relation of what a text may be cut into.
use Rattle.std.proofs.Common.{◌≡◌, ℕ, zero, suc, ◌+◌, ◌-◌, ◌<◌, ◌≤◌, Bool, true, false, List, [], ◌∷◌, ◌++◌, length}
use Rattle.std.proofs.Common.{take, drop, Option, Some, None, Err, sym, refl, ap, ◌∙◌, subst, ⊎_elim, arith}
use Rattle.std.proofs.Common.{length-append, length-drop, length-take-le, take-append-drop, append_assoc, eqb}
use Rattle.std.specs.Option.{is_some}
use Rattle.std.specs.List.{prefix_len}
use Rattle.std.specs.Char.{len_utf8}
use Rattle.std.specs.Str.{chars}
use Rattle.std.proofs.lemmas.Bool.{cond-true, cond-false, cases_Bool, cases_lt, false≢true, eqb-true, eqb-false}
use Rattle.std.proofs.lemmas.Bool.{not-false}
use Rattle.std.proofs.lemmas.List.{take_at, nil_from_length}
use Rattle.ftl_tokens.specs.declared.scanner.kind.Kind.{Kind}
use Rattle.ftl_tokens.specs.declared.scanner.kind.Kind.TheVariants.{Number}
use Rattle.ftl_tokens.specs.declared.scanner.kind.Token.{Token}
use Rattle.ftl_tokens.specs.declared.scanner.fault.TokenFault.TheVariants.{BadChar, NumberTooLarge}
use Rattle.ftl_tokens.specs.scanner.Kinds.{kind_of}
use Rattle.ftl_tokens.specs.scanner.Scan.{is_white_space, stays_in_line, byte_length, last_passing, longest_token, Front, gap}
use Rattle.ftl_tokens.specs.scanner.Scan.{token, nothing, token_if, front_of, is_too_large, followed_by, scan_front}
use Rattle.ftl_tokens.specs.scanner.Scan.{scan_from, scan}
use Rattle.ftl_tokens.specs.scanner.Scans.{IsLineEnd, IsGap, white_space, comment, IsLongestToken, BeginsNothing, Scans}
use Rattle.ftl_tokens.specs.scanner.Scans.{at_end, past_gap, past_token, large_number, bad_char}
use Rattle.ftl_tokens.specs.scanner.Piece.{Spans}
use Rattle.ftl_tokens.proofs.scanner.FrontLemmas.{kind_of-nil, list_all-run, prefix_len-le, none-from_is_some}
use Rattle.ftl_tokens.proofs.scanner.ScanLemmas.{scan_after}

-- the last that passes: it passes or is 0, is no more than n, and what is above it fails
last_passing-le : (test : ℕ → Bool) (n : ℕ) → last_passing test n ≤ n
unfolding last_passing
last_passing-le test zero = omega arith
last_passing-le test (suc n) =
    ⊎_elim
    (λ passes. omega (arith, cond-true (test (suc n)) (suc n) (last_passing test n) passes))
    (λ fails. omega (arith, cond-false (test (suc n)) (suc n) (last_passing test n) fails, last_passing-le test n))
    (cases_Bool (test (suc n)))

last_passing-above : (test : ℕ → Bool) (n k : ℕ) → last_passing test n < k → k ≤ n → test k ≡ false
unfolding last_passing
last_passing-above test zero k above within = absurd (omega arith)
last_passing-above test (suc n) k above within =
    ⊎_elim
    (λ passes. absurd (omega (arith, cond-true (test (suc n)) (suc n) (last_passing test n) passes)))
    (λ fails.
    ⊎_elim
    (λ below. last_passing-above test n k (omega (arith, cond-false (test (suc n)) (suc n) (last_passing test n) fails)) (omega arith))
    (λ at. let same : k ≡ suc n = omega arith in ap test same ∙ fails)
    (cases_lt k (suc n)))
    (cases_Bool (test (suc n)))

last_passing-passes : (test : ℕ → Bool) (n : ℕ) → 0 < last_passing test n → test (last_passing test n) ≡ true
unfolding last_passing
last_passing-passes test zero some = absurd (omega arith)
last_passing-passes test (suc n) some =
    ⊎_elim
    (λ passes. ap test (cond-true (test (suc n)) (suc n) (last_passing test n) passes) ∙ passes)
    (λ fails.
    let lower = cond-false (test (suc n)) (suc n) (last_passing test n) fails in
    ap test lower ∙ last_passing-passes test n (omega (arith, lower)))
    (cases_Bool (test (suc n)))

-- a text that is longer than the longest token is none
past_longest : (cs text rest : List ℕ) → cs ≡ text ++ rest → longest_token cs < length text → kind_of text ≡ None
unfolding longest_token
past_longest cs text rest split past =
    let fits : length text ≤ length cs = omega (arith, ap length split, length-append text rest) in
    let front : take (length text) cs ≡ text = ap (take (length text)) split ∙ take_at text rest (length text) refl in
    ap kind_of (sym front) ∙ none-from_is_some _ (last_passing-above (λ n. is_some (kind_of (take n cs))) (length cs) (length text) past fits)

longest_token-is : (cs : List ℕ) → 0 < longest_token cs → is_some (kind_of (take (longest_token cs) cs)) ≡ true
unfolding longest_token
longest_token-is cs some = last_passing-passes (λ n. is_some (kind_of (take n cs))) (length cs) some

longest_token-le : (cs : List ℕ) → longest_token cs ≤ length cs
unfolding longest_token
longest_token-le cs = last_passing-le (λ n. is_some (kind_of (take n cs))) (length cs)

-- what is said of the front of some characters
abbrev FrontFacts : List ℕ → Front → Type 0
FrontFacts cs (gap n) = IsGap (take n cs) (drop n cs) × (0 < n) × (n ≤ length cs)
FrontFacts cs (token kind n) = IsLongestToken kind (take n cs) (drop n cs) × (0 < n) × (n ≤ length cs)
FrontFacts [] nothing = Unit {0}
FrontFacts (c ∷ cs) nothing = BeginsNothing c cs

line_end : (cs : List ℕ) → IsLineEnd (drop (prefix_len stays_in_line cs) cs)
line_end [] = tt
line_end (c ∷ cs) =
    ⊎_elim
    (λ stays.
    let more : prefix_len stays_in_line (c ∷ cs) ≡ suc (prefix_len stays_in_line cs) = omega (arith, cond-true (stays_in_line c) (1 + prefix_len stays_in_line cs) 0 stays) in
    subst (λ n. IsLineEnd (drop n (c ∷ cs))) (sym more) (line_end cs))
    (λ ends. subst (λ n. IsLineEnd (drop n (c ∷ cs))) (sym (cond-false (stays_in_line c) (1 + prefix_len stays_in_line cs) 0 ends)) (eqb-true c 10 (not-false _ ends)))
    (cases_Bool (stays_in_line c))

-- a comment's front, where the first character is `#`
comment_facts : (cs : List ℕ) → FrontFacts (35 ∷ cs) (gap (suc (prefix_len stays_in_line cs)))
comment_facts cs = (comment (list_all-run stays_in_line (prefix_len stays_in_line cs) cs (omega arith)) (line_end cs), omega arith, omega (arith, prefix_len-le stays_in_line cs))

-- the front where neither white space nor a comment begins
token_facts : (c : ℕ) (cs : List ℕ) (kind : Option Kind) → is_white_space c ≡ false → (c ≡ 35 → ⊥)
    → kind_of (take (longest_token (c ∷ cs)) (c ∷ cs)) ≡ kind
    → FrontFacts (c ∷ cs) (token_if kind (longest_token (c ∷ cs)))
token_facts c cs None no_white no_hash kind = record {
  no_white_space = no_white;
  no_comment = no_hash;
  no_token = λ text rest split.
      let n = longest_token (c ∷ cs) in
      let front : take (length text) (c ∷ cs) ≡ text = ap (take (length text)) split ∙ take_at text rest (length text) refl in
      ⊎_elim
      (λ past. past_longest (c ∷ cs) text rest split past)
      (λ within.
      ⊎_elim
      (λ some. absurd (false≢true (ap is_some (sym kind) ∙ longest_token-is (c ∷ cs) some)))
      (λ none. ap kind_of (nil_from_length text (omega arith)) ∙ kind_of-nil)
      (cases_lt 0 n))
      (cases_lt n (length text));
}
token_facts c cs (Some kind) no_white no_hash found =
    let n = longest_token (c ∷ cs) in
    let fits = longest_token-le (c ∷ cs) in (
      record {
        is_token = found;
        longest = λ more after split some.
            past_longest (c ∷ cs) (take n (c ∷ cs) ++ more) after
            (sym (take-append-drop n (c ∷ cs)) ∙ ap (λ l. take n (c ∷ cs) ++ l) split ∙ sym (append_assoc (take n (c ∷ cs)) more after))
            (omega (arith, length-append (take n (c ∷ cs)) more, length-take-le n (c ∷ cs) fits));
      },
      ⊎_elim
          (λ some. some)
          (λ none. let zero_long : n ≡ 0 = omega arith in let no_kind = sym kind_of-nil ∙ ap (λ k. kind_of (take k (c ∷ cs))) (sym zero_long) ∙ found in absurd (cc no_kind))
          (cases_lt 0 n),
      fits,
    )

front_facts : (cs : List ℕ) → FrontFacts cs (front_of cs)
unfolding front_of
front_facts [] = tt
front_facts (c ∷ cs) =
    ⊎_elim
    (λ white.
    let more : prefix_len is_white_space (c ∷ cs) ≡ suc (prefix_len is_white_space cs) = omega (arith, cond-true (is_white_space c) (1 + prefix_len is_white_space cs) 0 white) in
    subst (FrontFacts (c ∷ cs)) (sym (cond-true _ _ _ white ∙ ap gap more))
    (white_space white (list_all-run is_white_space (prefix_len is_white_space cs) cs (omega arith)), omega arith, omega (arith, prefix_len-le is_white_space cs)))
    (λ no_white.
    ⊎_elim
    (λ hash.
    let is_hash = eqb-true c 35 hash in
    let start = cond-true (stays_in_line c) (1 + prefix_len stays_in_line cs) 0 (ap stays_in_line is_hash) in
    let more : prefix_len stays_in_line (c ∷ cs) ≡ suc (prefix_len stays_in_line cs) = omega (arith, start) in
    subst (FrontFacts (c ∷ cs)) (sym (cond-false _ _ _ no_white ∙ cond-true _ _ _ hash ∙ ap gap more))
    (subst (λ h. FrontFacts (h ∷ cs) (gap (suc (prefix_len stays_in_line cs)))) (sym is_hash) (comment_facts cs)))
    (λ no_hash.
    subst (FrontFacts (c ∷ cs)) (sym (cond-false _ _ _ no_white ∙ cond-false _ _ _ no_hash))
    (token_facts c cs (kind_of (take (longest_token (c ∷ cs)) (c ∷ cs))) no_white (eqb-false c 35 no_hash) refl))
    (cases_Bool (eqb c 35)))
    (cases_Bool (is_white_space c))

-- a kind with a limit is that of numbers
large_is_number : (greatest : ℕ) (kind : Kind) (text : List ℕ) → is_too_large greatest kind text ≡ true → kind ≡ Number
large_is_number greatest Number text large = refl
large_is_number greatest _ text large = absurd (false≢true large)

-- one step of the scan, and the relation for what is left
scans_step : (greatest at c : ℕ) (cs : List ℕ) (f : Front) → front_of (c ∷ cs) ≡ f → FrontFacts (c ∷ cs) f
    → ((n : ℕ) → 0 < n → n ≤ length (c ∷ cs) → Scans greatest (at + byte_length (take n (c ∷ cs))) (drop n (c ∷ cs)) (scan_from greatest (at + byte_length (take n (c ∷ cs))) 0 (drop n (c ∷ cs)))) → Scans greatest at (c ∷ cs) (scan_from greatest at 0 (c ∷ cs))
unfolding scan_from
scans_step greatest at c cs (gap n) front facts rest =
    let all = c ∷ cs in
    let spans : Spans all n (byte_length (take n all)) = record { some = facts.1; within = facts.2; bytes = refl } in
    let step = ap (λ f. scan_front greatest at all f (λ k. scan_from greatest (at + len_utf8 c) (k - 1) cs)) front ∙ scan_after greatest at c n (byte_length (take n all)) cs spans in
    subst (Scans greatest at all) (sym step) (subst (λ l. Scans greatest at l (scan_from greatest (at + byte_length (take n all)) 0 (drop n all))) (take-append-drop n all) (past_gap facts.0 (rest n facts.1 facts.2)))
scans_step greatest at c cs (token kind n) front facts rest =
    let all = c ∷ cs in
    let spans : Spans all n (byte_length (take n all)) = record { some = facts.1; within = facts.2; bytes = refl } in
    let step = ap (λ f. scan_front greatest at all f (λ k. scan_from greatest (at + len_utf8 c) (k - 1) cs)) front in
    let this : List Token = record { kind = kind; start = at; end = at + byte_length (take n all) } ∷ [] in
    ⊎_elim
    (λ large.
    let is_number = large_is_number greatest kind (take n all) large in
    let stop : scan_from greatest at 0 all ≡ Err (NumberTooLarge at) = step ∙ cond-true _ _ _ large in
    subst (Scans greatest at all) (sym stop)
    (subst (λ l. Scans greatest at l (Err (NumberTooLarge at))) (take-append-drop n all)
    (large_number (subst (λ k. IsLongestToken k (take n all) (drop n all)) is_number facts.0) (subst (λ k. is_too_large greatest k (take n all) ≡ true) is_number large))))
    (λ small.
    let go : scan_from greatest at 0 all ≡ followed_by this (scan_from greatest (at + byte_length (take n all)) 0 (drop n all)) = step ∙ cond-false _ _ _ small ∙ ap (followed_by this) (scan_after greatest at c n (byte_length (take n all)) cs spans) in
    subst (Scans greatest at all) (sym go)
    (subst (λ l. Scans greatest at l (followed_by this (scan_from greatest (at + byte_length (take n all)) 0 (drop n all)))) (take-append-drop n all) (past_token facts.0 small (rest n facts.1 facts.2))))
    (cases_Bool (is_too_large greatest kind (take n all)))
scans_step greatest at c cs nothing front facts rest =
    let stop : scan_from greatest at 0 (c ∷ cs) ≡ Err (BadChar at) = ap (λ f. scan_front greatest at (c ∷ cs) f (λ k. scan_from greatest (at + len_utf8 c) (k - 1) cs)) front in
    subst (Scans greatest at (c ∷ cs)) (sym stop) (bad_char facts)

-- at most so many characters are left
scans_within : (greatest left at : ℕ) (cs : List ℕ) → length cs ≤ left → Scans greatest at cs (scan_from greatest at 0 cs)
unfolding scan_from
scans_within greatest left at [] within = at_end
scans_within greatest zero at (c ∷ cs) within = absurd (omega arith)
scans_within greatest (suc left) at (c ∷ cs) within =
    scans_step greatest at c cs (front_of (c ∷ cs)) refl (front_facts (c ∷ cs))
    (λ n some fits. scans_within greatest left (at + byte_length (take n (c ∷ cs))) (drop n (c ∷ cs)) (omega (arith, length-drop n (c ∷ cs))))

pub scans : (greatest : ℕ) (text : List ℕ) → Scans greatest 0 (chars text) (scan greatest text)
unfolding scan
scans greatest text = scans_within greatest (length (chars text)) 0 (chars text) (omega arith)
