-- A text has one scan: what it may be cut into is what the function finds.
use Rattle.std.proofs.Common.{◌≡◌, ℕ, suc, ◌+◌, ◌-◌, true, false, ◌&&◌, eqb, List, [], ◌∷◌, ◌++◌, length}
use Rattle.std.proofs.Common.{take, drop, Some, None, Err, sym, refl, ap, ◌∙◌, length-append, take-append-drop, arith}
use Rattle.std.specs.List.{list_all, prefix_len}
use Rattle.std.specs.Char.{len_utf8}
use Rattle.std.specs.Str.{chars}
use Rattle.std.proofs.lemmas.Bool.{cond-true, cond-false, false_from_ne_true, eqb-true, and_parts}
use Rattle.std.proofs.lemmas.List.{take_at, drop_at}
use Rattle.ftl_tokens.specs.declared.scanner.kind.Kind.{Kind}
use Rattle.ftl_tokens.specs.declared.scanner.kind.Kind.TheVariants.{Number}
use Rattle.ftl_tokens.specs.declared.scanner.fault.TokenFault.TheVariants.{BadChar, NumberTooLarge}
use Rattle.ftl_tokens.specs.scanner.Kinds.{kind_of}
use Rattle.ftl_tokens.specs.scanner.Piece.{Spans}
use Rattle.ftl_tokens.specs.scanner.Scan.{Scanning, byte_length, followed_by, gap, is_too_large, is_white_space}
use Rattle.ftl_tokens.specs.scanner.Scan.{front_of, longest_token, scan, scan_from, scan_front, stays_in_line, token_if}
use Rattle.ftl_tokens.specs.scanner.Scans.{BeginsNothing, IsLineEnd, IsLongestToken, Scans, at_end, bad_char, comment}
use Rattle.ftl_tokens.specs.scanner.Scans.{large_number, past_gap, past_token, white_space}
use Rattle.ftl_tokens.specs.writing.Written.{StandsApart}
use Rattle.ftl_tokens.proofs.scanner.FrontLemmas.{kind_of-nil}
use Rattle.ftl_tokens.proofs.scanner.ScanLemmas.{scan_after}
use Rattle.ftl_tokens.proofs.writing.WrittenScan as written

-- what follows the longest token does not go on it
apart : (kind : Kind) (text rest : List ℕ) → IsLongestToken kind text rest → StandsApart text rest
apart kind text [] is = tt
apart kind text (c ∷ cs) is = is.longest (c ∷ []) cs refl (omega arith)

-- a scan ends at a number above the greatest
at_large : (greatest at : ℕ) (text rest : List ℕ) (kind : Kind) → kind_of text ≡ Some kind → StandsApart text rest
    → is_too_large greatest kind text ≡ true → scan_from greatest at 0 (text ++ rest) ≡ Err (NumberTooLarge at)
unfolding scan_from
at_large greatest at [] rest kind is stands large = absurd (cc (kind_of-nil, is))
at_large greatest at (c ∷ cs) rest kind is stands large =
    let all = c ∷ (cs ++ rest) in
    let whole : take (suc (length cs)) all ≡ c ∷ cs = take_at (c ∷ cs) rest (suc (length cs)) refl in
    ap (λ f. scan_front greatest at all f (λ k. scan_from greatest (at + len_utf8 c) (k - 1) (cs ++ rest)))
    (written.token_in_front c cs rest kind is stands)
    ∙ cond-true _ _ _ (ap (is_too_large greatest kind) whole ∙ large)

-- the body of a comment is all that stays in its line
line_run : (body rest : List ℕ) → list_all stays_in_line body ≡ true → IsLineEnd rest
    → prefix_len stays_in_line (body ++ rest) ≡ length body
line_run [] [] stays end = refl
line_run [] (c ∷ cs) stays end =
    cond-false (stays_in_line c) (1 + prefix_len stays_in_line cs) 0 (ap stays_in_line end)
line_run (c ∷ cs) rest stays end =
    let parts = and_parts (stays_in_line c) (list_all stays_in_line cs) stays in
    omega (
      arith,
      cond-true (stays_in_line c) (1 + prefix_len stays_in_line (cs ++ rest)) 0 parts.0,
      line_run cs rest parts.1 end,
    )

-- a scan past a comment
past_comment : (greatest at : ℕ) (body rest : List ℕ) → list_all stays_in_line body ≡ true → IsLineEnd rest
    → scan_from greatest at 0 (35 ∷ (body ++ rest)) ≡ scan_from greatest (at + byte_length (35 ∷ body)) 0 rest
unfolding scan_from front_of
past_comment greatest at body rest stays end =
    let all = 35 ∷ (body ++ rest) in
    let n = suc (length body) in
    let run : prefix_len stays_in_line all ≡ n =
    omega (
      arith,
      cond-true (stays_in_line 35) (1 + prefix_len stays_in_line (body ++ rest)) 0 refl,
      line_run body rest stays end,
    ) in
    let whole : take n all ≡ 35 ∷ body = take_at (35 ∷ body) rest n refl in
    let left : drop n all ≡ rest = drop_at (35 ∷ body) rest n refl in
    let spans : Spans all n (byte_length (35 ∷ body)) = record {
      some = omega arith;
      within = omega (arith, length-append body rest);
      bytes = ap byte_length (sym whole);
    } in
    ap (λ m. scan_front greatest at all (gap m) (λ k. scan_from greatest (at + len_utf8 35) (k - 1) (body ++ rest))) run
    ∙ scan_after greatest at 35 n (byte_length (35 ∷ body)) (body ++ rest) spans
    ∙ ap (scan_from greatest (at + byte_length (35 ∷ body)) 0) left

-- a scan ends where nothing begins
at_nothing : (greatest at c : ℕ) (cs : List ℕ) → BeginsNothing c cs → scan_from greatest at 0 (c ∷ cs) ≡ Err (BadChar at)
unfolding scan_from front_of
at_nothing greatest at c cs is =
    let n = longest_token (c ∷ cs) in
    let no_hash : eqb c 35 ≡ false = false_from_ne_true _ (λ hash. is.no_comment (eqb-true c 35 hash)) in
    let none : kind_of (take n (c ∷ cs)) ≡ None =
    is.no_token (take n (c ∷ cs)) (drop n (c ∷ cs)) (sym (take-append-drop n (c ∷ cs))) in
    ap (λ f. scan_front greatest at (c ∷ cs) f (λ k. scan_from greatest (at + len_utf8 c) (k - 1) cs))
    (cond-false _ _ _ is.no_white_space ∙ cond-false _ _ _ no_hash ∙ ap (λ found. token_if found n) none)

-- what the characters may be cut into is what the function finds
found_from : (greatest : ℕ) {at : ℕ} {cs : List ℕ} {found : Scanning} → Scans greatest at cs found
    → found ≡ scan_from greatest at 0 cs
unfolding scan_from
found_from greatest at_end = refl
found_from greatest (past_gap {at = at} (white_space {c = c} {more = more} {rest = rest} white all_white) later) =
    let both : list_all is_white_space (c ∷ more) ≡ true =
    ap (λ b. b && list_all is_white_space more) white ∙ all_white in
    found_from greatest later ∙ sym (written.past_gap greatest at (c ∷ more) rest both)
found_from greatest (past_gap {at = at} (comment {body = body} {rest = rest} stays end) later) =
    found_from greatest later ∙ sym (past_comment greatest at body rest stays end)
found_from greatest (past_token {at = at} {kind = kind} {text = text} {rest = rest} is small later) =
    ap (followed_by (record { kind = kind; start = at; end = at + byte_length text } ∷ [])) (found_from greatest later)
    ∙ sym (written.past_token greatest at text rest kind is.is_token (apart kind text rest is) small)
found_from greatest (large_number {at = at} {text = text} {rest = rest} is large) =
    sym (at_large greatest at text rest Number is.is_token (apart Number text rest is) large)
found_from greatest (bad_char {at = at} {c = c} {cs = cs} is) = sym (at_nothing greatest at c cs is)

pub agrees : (greatest : ℕ) (text : List ℕ) (found : Scanning) → Scans greatest 0 (chars text) found
    → found ≡ scan greatest text
unfolding scan
agrees greatest text found is = found_from greatest is

pub one : (greatest at : ℕ) (text : List ℕ) (found other : Scanning) → Scans greatest at text found
    → Scans greatest at text other → found ≡ other
one greatest at text found other is also = found_from greatest is ∙ sym (found_from greatest also)
