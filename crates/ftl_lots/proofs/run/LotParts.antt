-- From the words of all cells to the parts of lots, and back.
use Rattle.std.proofs.Common.{zero, suc, ◌≡◌, ℕ, ◌+◌, ◌*◌, ◌<◌, ◌≤◌, ◌⊎◌, inl, inr, ⊎_elim, List, [], ◌∷◌, ◌++◌, length, get_or, subst, refl, sym, ap, ◌∙◌, arith, length-append}
use Rattle.std.proofs.Math.Nat.{suc-mul, zero-mul}
use Rattle.std.proofs.lemmas.List.{get_or_append_left, get_or-append-add}
use mathlib.Core.Logic.{dite}
use native.Mathlib.Decide.{ℕ_discrete}
use Rattle.ftl_cells.specs.shared.Work.{Meaning, IsLawfulWork, cell_total, target_of, solved_word}
use Rattle.ftl_cells.specs.work_phases.Phases.{CanTake}
use Rattle.ftl_cells.specs.declared.work_phases.phase.Phases.{Phases}
use Rattle.ftl_lots.specs.filling.Filled.{HoldMade, Holds, IsOfFirst, IsOfFirstOrRanges, range_first}
use Rattle.ftl_lots.specs.table.Lots.{AreFilledFrom, IsBegun, IsFilled, Wanted, wanted}
use Rattle.ftl_lots.specs.words.Parts.{IsCut, Part, all_words}
use Rattle.ftl_lots.proofs.filling.Joins.{made_both, made_left, made_right}

-- one part more
pub push_filled : (w : Wanted) (parts : List Part) (part : Part) (n : ℕ) → length parts ≡ n → IsFilled w n part
    → AreFilledFrom w 0 parts → AreFilledFrom w 0 (parts ++ part ∷ [])
push_filled w parts part n is filled h k d l = let at : k ≡ 0 + k = omega arith in
    subst (λ j. IsFilled w j (get_or (parts ++ part ∷ []) k d)) at (dite (ℕ_discrete k n)
    (λ e. subst (λ i. IsFilled w i (get_or (parts ++ part ∷ []) k d)) (sym e)
    (subst (λ i. IsFilled w n (get_or (parts ++ part ∷ []) i d)) (omega (arith, e, is))
    (subst (IsFilled w n) (sym (get_or-append-add parts (part ∷ []) 0 d)) filled)))
    (λ ne.
    let less : k < length parts = omega (arith, l, ne, is, length-append parts (part ∷ [])) in
    subst (IsFilled w k) (sym (get_or_append_left parts (part ∷ []) d k less))
    (subst (λ j. IsFilled w j (get_or parts k d)) (sym at) (h k d less))))

module _ (m : Meaning) (t : Phases) where
  abbrev from : ℕ → ℕ
  from b = range_first t.size (cell_total m) b

  -- words of no cells
  none_hold : (is_made : (k l : ℕ) → Type 0) (words : List ℕ) (first : ℕ) → length words ≡ 0
      → HoldMade m is_made words first
  none_hold is_made words first none =
      let of : (c w : ℕ) → Holds words first c w = λ c w d is l. absurd (omega (arith, l, none)) in record {
        given = λ c l k. of c (solved_word m c);
        later = λ c l k. of c 0;
        filled = λ k l st b. of (target_of m k l) (solved_word m (target_of m k l));
        rest = λ k l st none. of (target_of m k l) 0;
      }

  -- where one lot ends the next begins
  lot_ends : (b first : ℕ) (p : Part) (ps : List Part) → IsCut t.size (p ∷ ps) → first ≡ from b
      → first + length (all_words (p ∷ ps)) ≡ cell_total m → first + length p.items ≡ from (b + 1)
  lot_ends b first p ps cut at all =
      let n = length-append p.items (all_words ps) in
      let next : (b + 1) * t.size ≡ b * t.size + t.size = ap (λ k. k * t.size) (omega arith) ∙ suc-mul b t.size in
      ⊎_elim (λ (full : length p.items ≡ t.size). omega (arith, at, all, n, next, full))
      (λ (none : length (all_words ps) ≡ 0). omega (arith, at, all, n, next, none, cut.0)) cut.1

  -- the parts of words after the first phase are those of lots that are begun
  pub begun : (b first : ℕ) (ps : List Part) → IsCut t.size ps → first ≡ from b
      → first + length (all_words ps) ≡ cell_total m → HoldMade m (IsOfFirst t) (all_words ps) first
      → (k : ℕ) (d : Part) → k < length ps → IsBegun (wanted m t) (b + k) (get_or ps k d)
  begun b first [] cut at all made k d l = absurd (omega (arith, l))
  begun b first (p ∷ ps) cut at all made zero d l =
      let here : IsBegun (wanted m t) b p = record {
        count = subst (λ n. n + length p.items ≡ from (b + 1)) at (lot_ends b first p ps cut at all);
        made = subst (HoldMade m (IsOfFirst t) p.items) at
            (made_left m t (IsOfFirst t) p.items (all_words ps) first made);
      } in
      subst (λ n. IsBegun (wanted m t) n p) (omega arith) here
  begun b first (p ∷ ps) cut at all made (suc k) d l =
      subst (λ n. IsBegun (wanted m t) n (get_or ps k d)) (omega arith)
      (begun (b + 1) (first + length p.items) ps cut.2 (lot_ends b first p ps cut at all)
      (omega (arith, all, length-append p.items (all_words ps)))
      (made_right m t (IsOfFirst t) p.items (all_words ps) first made) k d (omega (arith, l)))

  -- those of a list without its first part
  later : (b : ℕ) (p : Part) (ps : List Part) → AreFilledFrom (wanted m t) b (p ∷ ps)
      → AreFilledFrom (wanted m t) (b + 1) ps
  later b p ps filled k d l =
      subst (λ n. IsFilled (wanted m t) n (get_or ps k d)) (omega arith) (filled (suc k) d (omega (arith, l)))

  first_filled : (b : ℕ) (p : Part) (ps : List Part) → AreFilledFrom (wanted m t) b (p ∷ ps)
      → IsFilled (wanted m t) b p
  first_filled b p ps filled =
      subst (λ n. IsFilled (wanted m t) n p) (omega arith) (filled zero p (omega arith))

  -- the parts of filled lots have the words of all their cells
  pub joined : (b first : ℕ) (ps : List Part) → IsLawfulWork m → CanTake m t → first ≡ from b
      → AreFilledFrom (wanted m t) b ps → HoldMade m (IsOfFirstOrRanges t b (length ps)) (all_words ps) first
  joined b first [] law can at filled = none_hold (IsOfFirstOrRanges t b 0) [] first refl
  joined b first (p ∷ ps) law can at filled =
      let here = first_filled b p ps filled in
      let next : first + length p.items ≡ from (b + 1) = omega (arith, at, here.count) in
      let count : 1 + length ps ≡ length (p ∷ ps) = omega arith in
      subst (λ n. HoldMade m (IsOfFirstOrRanges t b n) (p.items ++ all_words ps) first) count
      (made_both m t p.items (all_words ps) first b 1 (length ps) law can at next
      (subst (HoldMade m (IsOfFirstOrRanges t b 1) p.items) (sym at) here.made)
      (joined (b + 1) (first + length p.items) ps law can next (later b p ps filled)))

  below_or : (i j : ℕ) → (i ≤ j) ⊎ (j ≤ i)
  below_or zero j = inl (omega arith)
  below_or (suc i) zero = inr (omega arith)
  below_or (suc i) (suc j) =
      ⊎_elim (λ (less : i ≤ j). inl (omega (arith, less))) (λ (more : j ≤ i). inr (omega (arith, more))) (below_or i j)

  from_below : (b : ℕ) → from b ≤ cell_total m
  from_below b = omega arith

  -- they are cut where the lots begin, and end where the lots end
  pub filled_cut : (b first : ℕ) (ps : List Part) → first ≡ from b → AreFilledFrom (wanted m t) b ps
      → IsCut t.size ps × (first + length (all_words ps) ≡ from (b + length ps))
  filled_cut b first [] at filled = (let same : b + 0 ≡ b = omega arith in (tt, omega (arith, at, ap from same)))
  filled_cut b first (p ∷ ps) at filled =
      let here = first_filled b p ps filled in
      let stop : first + length p.items ≡ from (b + 1) = omega (arith, at, here.count) in
      let rest = filled_cut (b + 1) (first + length p.items) ps stop (later b p ps filled) in
      let next : (b + 1) * t.size ≡ b * t.size + t.size = ap (λ k. k * t.size) (omega arith) ∙ suc-mul b t.size in
      let n = length-append p.items (all_words ps) in
      let same : from ((b + 1) + length ps) ≡ from (b + length (p ∷ ps)) = ap from (omega arith) in
      let up = from_below ((b + 1) + length ps) in
      let or : (length p.items ≡ t.size) ⊎ (length (all_words ps) ≡ 0) =
      ⊎_elim
      (λ (less : (b + 1) * t.size ≤ cell_total m). inl (omega (arith, less, stop, at, next)))
      (λ (more : cell_total m ≤ (b + 1) * t.size). inr (omega (arith, more, stop, rest.1, up)))
      (below_or ((b + 1) * t.size) (cell_total m)) in (
        (omega (arith, stop, at, next), or, rest.0),
        omega (arith, n, rest.1, same),
      )

  -- the first lot begins with the first cell
  pub first_begins : 0 ≡ from 0
  first_begins = omega (arith, zero-mul t.size)

  -- and the last one ends with the last
  pub lots_end : (n : ℕ) → CanTake m t → n ≡ t.ranges → from (0 + n) ≡ cell_total m
  lots_end n can is =
      let all : (0 + n) * t.size ≡ t.ranges * t.size = ap (λ k. k * t.size) (omega (arith, is)) in
      omega (arith, can.cover, all)
