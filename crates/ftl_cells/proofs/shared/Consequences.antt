-- What follows from the kept rule, on the words of a table.
use Rattle.std.proofs.Common.{◌≡◌, ◌≢◌, ℕ, ◌<◌, subst, refl, sym, ap, ◌∙◌, arith, List, get_or, set}
use Rattle.std.proofs.lemmas.List.{get_or-set_same, get_or-set_other}
use mathlib.Core.Logic.{dite}
use mathlib.Core.Option.{some}
use native.Mathlib.Decide.{ℕ_discrete}
use lib.ListN.{get_elem?}
use Rattle.ftl_cells.specs.shared.Work.{Meaning, cell_total, kind_at, item_total, next_at, step_total, target_of, read_total, read_of, solved_word, IsLawfulWork}
use Rattle.ftl_cells.specs.shared.State.{live, HandState, Steps, finds_ready, finds_waiting, claims, misses, reads, fills, marks, sends, finishes, ends, finds_left, Makes, steps, splits, joins, end_word, cell_word, state_word, count_word, last_word_of}
use Rattle.ftl_cells.specs.shared.Kept.{hand_at, stage_now, IsWorkingAt, HasEnded, IsInRange, IsHalfFilled, IsKeptBy}
use Rattle.ftl_cells.specs.declared.shared.place.HandPlace.TheVariants.{Working}
use Rattle.ftl_cells.proofs.shared.KeptSteps.{range_of}
use Rattle.ftl_cells.proofs.shared.Found.{read_is, all_filled, last_holds}

pub read_finds : (m : Meaning) (words : List ℕ) (hands : List HandState) (h i j r : ℕ) → IsLawfulWork m
    → IsKeptBy m words hands → (hand_at hands h).place ≡ live (Working i j r) → j < step_total m i
    → r < read_total m i j
    → get_or words (cell_word (read_of m i j r)) 0 ≡ solved_word m (read_of m i j r)
read_finds m words hands h i j r law k e b c = read_is m law (stage_now m words hands) k.rule h i j r
    (subst (λ p. IsWorkingAt p i j) (sym e) (refl, refl)) b c

pub fill_finds : (m : Meaning) (words : List ℕ) (hands : List HandState) (h i j r : ℕ) → IsKeptBy m words hands
    → (hand_at hands h).place ≡ live (Working i j r) → j < step_total m i
    → get_or words (cell_word (target_of m i j)) 0 ≡ 0
fill_finds m words hands h i j r k e b =
    let rule = k.rule in
    let half : IsHalfFilled m (stage_now m words hands) i j = rule.working h i j
    (subst (λ p. IsWorkingAt p i j) (sym e) (refl, refl)) in
    half.rest j (omega arith) b

module _ (m : Meaning) (law : IsLawfulWork m) (words : List ℕ) (hands : List HandState) (k : IsKeptBy m words hands)
    (i : ℕ) (l : i < item_total m) (ne : get_or words (state_word m i) 0 ≢ 0) where
  elsewhere : (a x : ℕ) → a ≢ state_word m i → get_or (set words a x) (state_word m i) 0 ≢ 0
  elsewhere a x apart z = ne (sym (get_or-set_other words a (state_word m i) x 0 (λ e. apart (sym e))) ∙ z)

  state_set : (n x : ℕ) → x ≢ 0 → n < item_total m → get_or (set words (state_word m n) x) (state_word m i) 0 ≢ 0
  state_set n x some_x b z = dite (ℕ_discrete n i)
      (λ e. some_x
      (sym (get_or-set_same words (state_word m n) x 0 (omega (arith, k.count))) ∙ ap
      (λ y. get_or (set words (state_word m n) x) (state_word m y) 0) e ∙ z))
      (λ d. elsewhere (state_word m n) x (λ e. d (omega arith)) z)

  step_stays : (h : ℕ) (v w : HandState) (next : List ℕ) → get_elem? hands h ≡ some v → Steps m words v next w
      → get_or next (state_word m i) 0 ≢ 0
  step_stays h v w next at (finds_ready n e b z) = ne
  step_stays h v w next at (finds_waiting n e b z) = ne
  step_stays h v w next at (claims n e z) = state_set n 1 (λ y. omega arith)
      (subst (IsInRange m) e (range_of m law words hands k h v at))
  step_stays h v w next at (misses n e z) = ne
  step_stays h v w next at (reads n j r e b c) = ne
  step_stays h v w next at (fills n j r e b c) =
      let range : IsInRange m (live (Working n j r)) = subst (IsInRange m) e (range_of m law words hands k h v at) in
      let below : target_of m n j < cell_total m = law.target_in_range n j (record { item = range.0; step = b }) in
      elsewhere (cell_word (target_of m n j)) (solved_word m (target_of m n j)) (λ q. omega arith)
  step_stays h v w next at (marks n j r e b) =
      let range : IsInRange m (live (Working n j r)) = subst (IsInRange m) e (range_of m law words hands k h v at) in
      state_set n 2 (λ y. omega arith) range.0
  step_stays h v w next at (sends n c left e b z) = elsewhere (count_word m (next_at m n c)) left (λ q. omega arith)
  step_stays h v w next at (finishes n c left e b z) = elsewhere end_word left (λ q. omega arith)
  step_stays h v w next at (ends e z) = ne
  step_stays h v w next at (finds_left e z) = ne

  pub claim_stays : (next : List ℕ) (more : List HandState) → Makes m words hands next more
      → get_or next (state_word m i) 0 ≢ 0
  claim_stays next more (steps h v w after at step) = step_stays h v w next at step
  claim_stays next more (splits h v at e) = ne
  claim_stays next more (joins h other v w apart at there f g) = ne

pub end_tells : (m : Meaning) (words : List ℕ) (hands : List HandState) → IsLawfulWork m → IsKeptBy m words hands
    → get_or words end_word 0 ≡ 0 → (i : ℕ) → i < item_total m → get_or words (state_word m i) 0 ≡ 2
end_tells m words hands law k z = all_filled m law (stage_now m words hands) k.rule z

pub end_holds : (m : Meaning) (words : List ℕ) (hands : List HandState) → IsLawfulWork m → IsKeptBy m words hands
    → get_or words end_word 0 ≡ 0 → (c : ℕ) → c < cell_total m
    → get_or words (cell_word c) 0 ≡ last_word_of (kind_at m c) (solved_word m c)
end_holds m words hands law k z = last_holds m law (stage_now m words hands) k.rule z

pub ended_tells : (m : Meaning) (words : List ℕ) (hands : List HandState) (h : ℕ) → IsKeptBy m words hands
    → HasEnded (hand_at hands h).place → get_or words end_word 0 ≡ 0
ended_tells m words hands h k e = let rule = k.rule in rule.ended h e
