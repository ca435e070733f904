-- Steps past white space and comments, and where ASCII ends.
use Rattle.std.proofs.Common.{◌≡◌, ℕ, zero, suc, ◌+◌, ◌<◌, ◌≤◌, true, false, List, length, drop, get_or, sym, ap, ◌∙◌, subst, arith}
use Rattle.std.specs.List.{prefix_len, slice_range}
use Rattle.std.specs.Str.{IsUtf8, IsCharBoundary}
use Rattle.std.proofs.lemmas.Bool.{and_parts, ltb-true, ne_eqb, eq-eqb}
use Rattle.std.proofs.lemmas.List.{drop_more, drop-drop, drop_all, get_or-drop}
use Rattle.std.proofs.lemmas.List.Sums.{prefix_len_passes, prefix_len-le-length}
use Rattle.std.proofs.lemmas.Str.{IsCharBoundary-after_ascii}
use Rattle.std.proofs.Common.{length-drop, take, ◌-◌, take_all}
use Rattle.ftl_tokens.specs.declared.scanner.run.Run.{Run}
use Rattle.ftl_tokens.specs.declared.scanner.run.Run.TheVariants.{White, Comment}
use Rattle.ftl_tokens.specs.scanner.Run.{byte_goes_on}
use Rattle.ftl_tokens.specs.scanner.Scan.{gap}
use Rattle.ftl_document.specs.plain.Plain.{plain_tokens}
use Rattle.ftl_document.specs.plain.Found.{IsGapless}
use Rattle.ftl_document.proofs.plain.PlainScan.{plain_step, white_front, comment_front}

-- past one byte of white space
pub past_white : (greatest : ℕ) (bs : List ℕ) (at : ℕ) → at < length bs → byte_goes_on White (get_or bs at 0) ≡ true
    → plain_tokens greatest (drop at bs) ≡ plain_tokens greatest (drop (at + 1) bs)
past_white greatest bs at within white =
    ap (plain_tokens greatest) (drop_more bs at 0 within)
    ∙ plain_step greatest (get_or bs at 0) (drop (at + 1) bs) (gap 1) (white_front (get_or bs at 0) (drop (at + 1) bs) white) (omega arith)

-- past a comment
pub past_comment : (greatest : ℕ) (bs : List ℕ) (at n : ℕ) → at < length bs → byte_goes_on White (get_or bs at 0) ≡ false
    → get_or bs at 0 ≡ 35 → n ≡ prefix_len (byte_goes_on Comment) (drop (at + 1) bs)
    → plain_tokens greatest (drop at bs) ≡ plain_tokens greatest (drop (at + (1 + n)) bs)
past_comment greatest bs at n within white hash count =
    let b = get_or bs at 0 in
    let rest = drop (at + 1) bs in
    let run = prefix_len (byte_goes_on Comment) rest in
    let place : at + 1 + run ≡ at + (1 + n) = omega (arith, count) in
    ap (plain_tokens greatest) (drop_more bs at 0 within)
    ∙ plain_step greatest b rest (gap (suc run)) (comment_front b rest white (eq-eqb b 35 hash)) (omega arith)
    ∙ ap (plain_tokens greatest) (drop-drop run (at + 1) bs ∙ ap (λ k. drop k bs) place)

-- behind an ASCII byte and a run of others a character begins
pub boundary_past : (run : Run) (bs : List ℕ) (at n : ℕ) → IsUtf8 bs → at < length bs → get_or bs at 0 < 128
    → n ≡ prefix_len (byte_goes_on run) (drop (at + 1) bs) → IsCharBoundary bs (at + (1 + n))
boundary_past run bs at zero utf8 within ascii count =
    let place : at + 1 ≡ at + (1 + 0) = omega arith in
    subst (IsCharBoundary bs) place (IsCharBoundary-after_ascii bs at utf8 within ascii)
boundary_past run bs at (suc m) utf8 within ascii count =
    let rest = drop (at + 1) bs in
    let passes = prefix_len_passes (byte_goes_on run) rest m 0 (omega (arith, count)) in
    let there : at + 1 + m < length bs =
    omega (arith, count, prefix_len-le-length (byte_goes_on run) rest, length-drop (at + 1) bs) in
    let small : get_or bs (at + 1 + m) 0 < 128 =
    subst (λ k. k < 128) (get_or-drop (at + 1) bs m 0) (ltb-true (get_or rest m 0) 128 (and_parts _ _ passes).0) in
    let place : at + 1 + m + 1 ≡ at + (1 + suc m) = omega arith in
    subst (IsCharBoundary bs) place (IsCharBoundary-after_ascii bs (at + 1 + m) utf8 there small)

-- what is neither white space nor `#`
pub gapless_at : (bs : List ℕ) (at : ℕ) → at < length bs → byte_goes_on White (get_or bs at 0) ≡ false
    → (get_or bs at 0 ≡ 35 → ⊥) → IsGapless (drop at bs)
gapless_at bs at within white no_hash =
    subst IsGapless (sym (drop_more bs at 0 within)) (white, ne_eqb _ 35 no_hash)

pub gapless_end : (bs : List ℕ) (at : ℕ) → length bs ≤ at → IsGapless (drop at bs)
gapless_end bs at past = subst IsGapless (sym (drop_all at bs past)) tt

-- a slice to the end, as it is taken
pub slice_behind : (bs : List ℕ) (n : ℕ) → take (length bs - n) (drop n bs) ≡ drop n bs
slice_behind bs n = take_all (length bs - n) (drop n bs) (omega (arith, length-drop n bs))

-- a slice from the start
pub slice_before : (bs : List ℕ) (n : ℕ) → slice_range bs 0 n ≡ take n bs
slice_before bs n = let same : n - 0 ≡ n = omega arith in ap (λ k. take k bs) same
