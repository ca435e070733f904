-- Sums over the workers of a stage.
use Rattle.std.proofs.Common.{◌≡◌, ℕ, suc, ◌+◌, ◌≤◌, List, [], ◌∷◌, ◌++◌, length, refl, arith}
use Rattle.std.proofs.lemmas.List.Sums.{sum_by-cons, sum_by_push}
use Rattle.std.specs.List.{All}
use Rattle.atomic_table.specs.Seated.{TableId}
use Rattle.crossbeam_utils.specs.Padded.{padded_value}
use Rattle.crossbeam_utils.specs.declared.cache_padded.CachePadded.{CachePadded}
use Rattle.ftl_cells.specs.shared.Work.{Meaning}
use Rattle.ftl_steal.specs.declared.member.Member.{Member}
use Rattle.ftl_steal.specs.Workers.{steps_made, step_total, IsEndedMember}

hand_steps : CachePadded Member → ℕ
hand_steps w = steps_made (padded_value w).hand.state

tail_all : {X : Type 0} (P : X → Type 0) (x : X) (xs : List X) → All P (x ∷ xs) → All P xs
tail_all P x xs all k d l = all (suc k) d (omega arith)

head_all : {X : Type 0} (P : X → Type 0) (x : X) (xs : List X) → All P (x ∷ xs) → P x
head_all P x xs all = all 0 x (omega arith)

-- each worker's hand made a step
pub each_stepped : (m : Meaning) (table : TableId) (ws : List (CachePadded Member)) → All (IsEndedMember m table) ws
    → length ws ≤ step_total ws
unfolding hand_steps
each_stepped m table [] all = omega arith
each_stepped m table (w ∷ ws) all =
    let one = (head_all (IsEndedMember m table) w ws all).stepped in
    omega (
      arith,
      one,
      sum_by-cons hand_steps w ws,
      each_stepped m table ws (tail_all (IsEndedMember m table) w ws all),
    )

pub push_total : (ws : List (CachePadded Member)) (w : CachePadded Member)
    → step_total (ws ++ w ∷ []) ≡ step_total ws + steps_made (padded_value w).hand.state
unfolding hand_steps
push_total ws w = sum_by_push hand_steps ws w

pub none_left : (ws : List (CachePadded Member)) → length ws ≡ 0 → step_total ws ≡ 0
none_left [] e = refl
none_left (w ∷ ws) e = absurd (omega arith)
