-- Items that fill a cell each with a number of a list, for tests: none waits for another, and none reads.
use Rattle.std.specs.Prelude.{ℕ, List, length, slice_index, min, pos}
use Rattle.ftl_model.specs.layout.Values.{number}
use Rattle.ftl_cells.specs.shared.Shape.{WorkShape}
use Rattle.ftl_cells.specs.declared.shared.kind.CellKind.TheVariants.{Target}

-- the numbers are at most 255
abbrev pub lent : List ℕ → WorkShape
lent numbers = record {
  cells = length numbers;
  kind = λ c. Target;
  value = λ c. number (pos (min 255 (slice_index numbers c)));
  items = length numbers;
  preds = λ i. 0;
  next_count = λ i. 0;
  next = λ i k. 0;
  steps = λ i. 1;
  target = λ i j. i;
  read_count = λ i j. 0;
  read = λ i j r. 0;
  max_reads = 0;
  max_stack = 0;
}
