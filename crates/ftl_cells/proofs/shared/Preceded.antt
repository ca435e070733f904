-- An item in a list of next items has a predecessor.
use Rattle.std.proofs.Common.{◌≢◌, ℕ, ◌<◌, refl, arith}
use Rattle.ftl_cells.specs.shared.Work.{Meaning, item_total, pred_total, next_total, next_at, IsNext, IsLawfulWork}
use Rattle.ftl_cells.proofs.shared.Counting.{some_left}

pub preceded : (m : Meaning) (item k : ℕ) → IsLawfulWork m → item < item_total m → k < next_total m item
    → pred_total m (next_at m item k) ≢ 0
preceded m item k law known below z =
    let next = next_at m item k in
    let is : IsNext m item (next_at m item k) = record { known = known; at = k; below = below; is = refl } in
    let one = some_left (λ p. IsNext m p (next_at m item k)) item (law.next_is_later item k known below) is
    (law.preds (next_at m item k) (law.next_in_range item k known below)) in
    omega (arith, one.1)
