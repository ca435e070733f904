use Rattle.std.proofs.Common.{◌≡◌, ◌++◌, length}
use Rattle.maugzeris.proofs.pages.reads.cells_read.Given as goal

-- what was read, and what is left
abbrev pub invariant-loop-cell : goal.invariant-loop-cell
invariant-loop-cell l = l.reads.items ++ l.cells ≡ l.fn.cells

abbrev pub decreases-loop-cell : goal.decreases-loop-cell
decreases-loop-cell l = length l.cells
