-- The words of a table at the end.
use Rattle.std.proofs.Common.{◌≡◌, ℕ, ◌+◌, ◌<◌, subst, sym, ◌∙◌, arith, List, length, get_or}
use Rattle.std.proofs.Math.ListN.{set}
use mathlib.Core.Logic.{dite}
use native.Mathlib.Decide.{ℕ_discrete}
use Rattle.std.proofs.lemmas.List.{get_or-set_same, get_or-set_other}
use Rattle.atomic_table.specs.Table.{Final, Seen}
use Rattle.ftl_cells.specs.shared.Work.{Meaning, cell_total, kind_at, solved_word, IsLawfulWork}
use Rattle.ftl_cells.specs.shared.State.{live, HandState, AreLast, last_word_of}
use Rattle.ftl_cells.specs.shared.Kept.{stage_now, HasEnded}
use Rattle.ftl_cells.specs.declared.shared.place.HandPlace.TheVariants.{Ended}
use Rattle.ftl_cells.proofs.shared.KeptSteps.{kept, hand_is}
use Rattle.ftl_cells.proofs.shared.Found.{last_holds}
use Rattle.ftl_cells.proofs.shared.Plays.{Holds}

module _ (m : Meaning) (law : IsLawfulWork m) (id : ℕ) (v : HandState) (ws homes : List ℕ)
    (ended : v.place ≡ live Ended) (final : Final (Seen (Holds m) id v) ws homes) where
  pub final_holds : (c : ℕ) → c < cell_total m → get_or ws (1 + c) 0 ≡ last_word_of (kind_at m c) (solved_word m c)
  final_holds c l =
      let s = final.0 in
      let k = kept m law s.words s.views final.1.0 in
      let rule = k.rule in
      let end : get_or s.words 0 0 ≡ 0 = rule.ended id
      (subst (λ y. HasEnded y.place) (sym (hand_is m law s.words s.views k id v final.1.1))
      (subst HasEnded (sym ended) tt)) in
      subst (λ x. get_or x (1 + c) 0 ≡ last_word_of (kind_at m c) (solved_word m c)) final.2
      (last_holds m law (stage_now m s.words s.views) rule end c l)

  pub are_last : (words : List ℕ) → length words ≡ cell_total m
      → ((c : ℕ) → c < length words → get_or words c 0 ≡ get_or ws (1 + c) 0) → AreLast m words
  are_last words count copied = record {
    count = count;
    each = λ c l. copied c (subst (λ n. c < n) (sym count) l) ∙ final_holds c l;
  }

-- one more word copied
pub copied_more : (ws before : List ℕ) (n x : ℕ) → n < length before
    → ((c : ℕ) → c < n → get_or before c 0 ≡ get_or ws (1 + c) 0) → get_or ws (1 + n) 0 ≡ x
    → (c : ℕ) → c < n + 1 → get_or (set before n x) c 0 ≡ get_or ws (1 + c) 0
copied_more ws before n x room copied is c l = dite (ℕ_discrete c n)
    (λ e. subst (λ k. get_or (set before n x) k 0 ≡ get_or ws (1 + k) 0) (sym e)
    (get_or-set_same before n x 0 room ∙ sym is))
    (λ ne. get_or-set_other before n c x 0 ne ∙ copied c (omega arith))
