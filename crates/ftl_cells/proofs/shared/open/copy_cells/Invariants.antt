use Rattle.std.proofs.Common.{◌≡◌, ℕ, ◌+◌, ◌<◌, get_or}
use Rattle.std.specs.Slots.{slots_items}
use Rattle.ftl_cells.proofs.shared.open.copy_cells.Given as goal

abbrev pub invariant-loop-cell : goal.invariant-loop-cell
invariant-loop-cell l = (c : ℕ) → c < l.cell → get_or l.word-items c 0 ≡ get_or (slots_items l.closed.words) (1 + c) 0
