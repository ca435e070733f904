-- Kids without steps can be passed over.
use Rattle.std.proofs.Common.{◌≡◌, ℕ, zero, suc, ◌+◌, ◌-◌, ◌<◌, ◌≤◌, List, [], ◌++◌, flat_map, length, sym, ◌∙◌, ap, inl, inr, arith, length-append}
use Rattle.std.specs.List.{range_with_len}
use Rattle.std.proofs.lemmas.Bool.{cases_lt}
use Rattle.ftl_model.specs.layout.AttributeGrammar.{AttributeGrammar}
use Rattle.ftl_model.specs.layout.Path.{Path, kids_at}
use Rattle.ftl_model.specs.layout.Tree.{Forest}
use Rattle.ftl_order.specs.declared.steps.step.Step.{Step}
use Rattle.ftl_cursors.specs.inorder.InorderSteps.{kid_steps}
use Rattle.ftl_cursors.specs.sequence.Moves.{kid_moves, moves_from_kid}
use Rattle.ftl_cursors.specs.sequence.SequenceRest.{from_child, from_kid}
use Rattle.ftl_cursors.proofs.inorder.Pieces.{pass_over}

-- pieces of a list up to a number, those at the front being empty
pieces_passed : (f : ℕ → List Step) (count from end : ℕ) → from ≤ end
    → ((k : ℕ) → from ≤ k → k < end → k < count → f k ≡ [])
    → flat_map f (range_with_len end (count - end)) ≡ flat_map f (range_with_len from (count - from))
pieces_passed f count from end order empty =
    elim (cases_lt count end) [
      | inl past ↦
          ap (λ n. flat_map f (range_with_len end n)) (let z : count - end ≡ 0 = omega arith in z)
          ∙ sym
          (ap (λ n. flat_map f (range_with_len from n)) (let z : count - from ≡ (count - from) + 0 = omega arith in z)
          ∙ pass_over f from (count - from) 0
          (λ k low high. empty k low (omega (arith, low, high)) (omega (arith, low, high))))
      | inr within ↦
          ap (λ n. flat_map f (range_with_len n (count - end))) (let z : end ≡ from + (end - from) = omega arith in z)
          ∙ sym
          (ap (λ n. flat_map f (range_with_len from n))
          (let z : count - from ≡ (end - from) + (count - end) = omega arith in z)
          ∙ pass_over f from (end - from) (count - end)
          (λ k low high. empty k low (omega (arith, low, high)) (omega (arith, low, high))))
    ]

module _ (g : AttributeGrammar) (t : Forest) (attributes : List ℕ) (p : Path) (c : ℕ) where
  pub kids_passed : (from end : ℕ) (rest : List Step) → from ≤ end
      → ((k : ℕ) → from ≤ k → k < end → k < kids_at t p c → kid_steps g t attributes p c k ≡ [])
      → from_kid g t attributes p c end rest ≡ from_kid g t attributes p c from rest
  kids_passed from end rest order empty =
      ap (λ (xs : List Step). xs ++ from_child g t attributes p (c + 1) rest)
      (pieces_passed (kid_steps g t attributes p c) (kids_at t p c) from end order empty)

  -- a later kid has no more moves
  next_moves : (k rest : ℕ) → moves_from_kid g t p c (k + 1) rest ≤ moves_from_kid g t p c k rest
  next_moves k rest =
      let count = kids_at t p c in
      elim (cases_lt k count) [
        | inl there ↦
            let later = flat_map (kid_moves g t p c) (range_with_len (k + 1) (count - (k + 1))) in
            let both = length-append (kid_moves g t p c k) later in
            let is : length (flat_map (kid_moves g t p c) (range_with_len k (count - k)))
            ≡ length (kid_moves g t p c k ++ later) =
            ap (λ n. length (flat_map (kid_moves g t p c) (range_with_len k n)))
            (let z : count - k ≡ suc (count - (k + 1)) = omega arith in z) in
            omega (arith, both, is)
        | inr past ↦
            let one : length (flat_map (kid_moves g t p c) (range_with_len k (count - k))) ≡ 0 =
            ap (λ n. length (flat_map (kid_moves g t p c) (range_with_len k n)))
            (let z : count - k ≡ 0 = omega arith in z) in
            let two : length (flat_map (kid_moves g t p c) (range_with_len (k + 1) (count - (k + 1)))) ≡ 0 =
            ap (λ n. length (flat_map (kid_moves g t p c) (range_with_len (k + 1) n)))
            (let z : count - (k + 1) ≡ 0 = omega arith in z) in
            omega (arith, one, two)
      ]

  later_moves : (more from rest : ℕ)
      → moves_from_kid g t p c (from + more) rest ≤ moves_from_kid g t p c from rest
  later_moves zero from rest =
      let same : moves_from_kid g t p c (from + 0) rest ≡ moves_from_kid g t p c from rest =
      ap (λ k. moves_from_kid g t p c k rest) (let z : from + 0 ≡ from = omega arith in z) in
      omega (arith, same)
  later_moves (suc more) from rest =
      let same : moves_from_kid g t p c (from + suc more) rest ≡ moves_from_kid g t p c ((from + more) + 1) rest =
      ap (λ k. moves_from_kid g t p c k rest) (let z : from + suc more ≡ (from + more) + 1 = omega arith in z) in
      let one = next_moves (from + more) rest in
      let others = later_moves more from rest in
      omega (arith, same, one, others)

  pub fewer_moves : (from end rest : ℕ) → from ≤ end
      → moves_from_kid g t p c end rest ≤ moves_from_kid g t p c from rest
  fewer_moves from end rest order =
      let same : moves_from_kid g t p c (from + (end - from)) rest ≡ moves_from_kid g t p c end rest =
      ap (λ k. moves_from_kid g t p c k rest) (let z : from + (end - from) ≡ end = omega arith in z) in
      let fewer = later_moves (end - from) from rest in
      omega (arith, same, fewer)
