-- Writes of cells, so that they can be taken back.
use Rattle.std.specs.Prelude.{ℕ, ◌+◌, List, [], ◌∷◌, map, slice_set}
use Rattle.ftl_model.specs.layout.Values.{Value}
use Rattle.ftl_relayout.specs.declared.queue.trail.Before.{Before}

-- the values before these writes, the last of which is taken back first
abbrev pub undone : List Before → List Value → List Value
undone [] values = values
undone (b ∷ bs) values = slice_set (undone bs values) b.cell b.value

-- the cells that were written
abbrev pub cells_of : List Before → List ℕ
cells_of bs = map (λ b. b.cell) bs

-- the sum of what some cells cost
abbrev pub total_cost : (ℕ → ℕ) → List ℕ → ℕ
total_cost cost [] = 0
total_cost cost (x ∷ xs) = cost x + total_cost cost xs
