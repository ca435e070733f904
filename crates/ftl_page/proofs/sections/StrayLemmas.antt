-- The first stray line, line by line.
use Rattle.std.proofs.Common.{◌≡◌, ℕ, ◌+◌, ◌<◌, ◌≤◌, true, false, List, ◌∷◌, ◌++◌, length, Some, None, ap, ◌∙◌}
use Rattle.std.proofs.Common.{arith, length-append}
use Rattle.std.proofs.Common.{suc, nat_lt, sym, ⊎_elim, option_map}
use Rattle.std.specs.Prelude.{if◌then◌else◌}
use Rattle.std.specs.List.{position_or_len}
use Rattle.std.proofs.lemmas.Bool.{cases_lt}
use Rattle.std.proofs.lemmas.Bool.Decides.{nat_tests}
use Rattle.ftl_page.specs.declared.sections.fault.PageFault.TheVariants.{StrayText}
use Rattle.ftl_page.specs.sections.Lines.{lines_of, is_stray}
use Rattle.ftl_page.specs.sections.Page.{first_stray}
use Rattle.ftl_page.proofs.sections.LineLemmas.{lines_of-nil}

-- a place below the length is one, and others are none
place_below : (k n : ℕ) → k < n → (if nat_lt k n then Some k else None) ≡ Some k
place_below k n h = grind (arith, nat_tests)

no_place : (k n : ℕ) → n ≤ k → (if nat_lt k n then Some k else None) ≡ None
no_place k n h = grind (arith, nat_tests)

-- a stray line is the first of itself and those behind it
first_stray-here : (number : ℕ) (line : List ℕ) (lines : List (List ℕ)) → is_stray line ≡ true →
    first_stray number (line ∷ lines) ≡ Some (StrayText number)
unfolding first_stray
first_stray-here number line lines stray =
    rw stray (ap (option_map (λ place. StrayText (number + place))) (place_below 0 (suc (length lines)) (omega arith))
    ∙ ap (λ j. Some (StrayText j)) (omega arith))

-- behind a plain line the first stray one is that of the others
first_stray-later : (number : ℕ) (line : List ℕ) (lines : List (List ℕ)) → is_stray line ≡ false →
    first_stray number (line ∷ lines) ≡ first_stray (number + 1) lines
unfolding first_stray
first_stray-later number line lines plain =
    let k = position_or_len is_stray lines in
    let n = length lines in
    let longer : position_or_len is_stray (line ∷ lines) ≡ suc k = rw plain (omega arith) in
    ap (λ j. option_map (λ place. StrayText (number + place)) (if nat_lt j (suc n) then Some j else None)) longer
    ∙ ⊎_elim
    (λ below.
    ap (option_map (λ place. StrayText (number + place))) (place_below (suc k) (suc n) (omega arith))
    ∙ ap (λ j. Some (StrayText j)) (omega arith)
    ∙ sym (ap (option_map (λ place. StrayText (number + 1 + place))) (place_below k n below)))
    (λ behind.
    ap (option_map (λ place. StrayText (number + place))) (no_place (suc k) (suc n) (omega arith))
    ∙ sym (ap (option_map (λ place. StrayText (number + 1 + place))) (no_place k n behind)))
    (cases_lt k n)

-- the lines of text from number on have the stray line that those of rest have
pub record StrayAhead (from number : ℕ) (text rest : List ℕ) : Type 0 where
  pub left : number + length rest ≤ from + length text
  pub ahead : first_stray from (lines_of text) ≡ first_stray number (lines_of rest)

module _ {from number : ℕ} {text rest : List ℕ} (so_far : StrayAhead from number text rest) where
  pub stray_found : (line after : List ℕ) → lines_of rest ≡ line ∷ lines_of after → is_stray line ≡ true
      → first_stray from (lines_of text) ≡ Some (StrayText number)
  stray_found line after lines stray = so_far.ahead ∙ ap (first_stray number) lines ∙ first_stray-here _ _ _ stray

  pub stray_further : (line after : List ℕ) → lines_of rest ≡ line ∷ lines_of after → rest ≡ line ++ after
      → 0 < length line → is_stray line ≡ false → StrayAhead from (number + 1) text after
  stray_further line after lines whole some plain = record {
    left = omega (arith, so_far.left, ap length whole, length-append line after);
    ahead = so_far.ahead ∙ ap (first_stray number) lines ∙ first_stray-later _ _ _ plain;
  }

  pub stray_none : length rest ≡ 0 → first_stray from (lines_of text) ≡ None
  unfolding first_stray
  stray_none none = so_far.ahead ∙ ap (first_stray number) (lines_of-nil rest none)
