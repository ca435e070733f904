-- A fold over the kids of a child, from the first to the last.
use Rattle.std.specs.Prelude.{ℕ, zero, suc}

-- from `start`, with one step for each kid
abbrev pub fold_kids : {V : Type 0} → ℕ → (V → ℕ → V) → V → V
fold_kids zero step start = start
fold_kids (suc kids) step start = step (fold_kids kids step start) kids
