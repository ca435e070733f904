-- Eight items of which seven wait for the first, for tests.
use Rattle.std.specs.Prelude.{ℕ, zero, suc, ◌+◌, ◌-◌, ◌*◌, min, pos}
use Rattle.ftl_model.specs.layout.Values.{number}
use Rattle.ftl_cells.specs.shared.Shape.{WorkShape}
use Rattle.ftl_cells.specs.declared.shared.kind.CellKind.{CellKind}
use Rattle.ftl_cells.specs.declared.shared.kind.CellKind.TheVariants.{Given, Target}

abbrev pub star_kind : ℕ → CellKind
star_kind zero = Given
star_kind (suc c) = Target

-- cell 0 is Given with 5, item 0 sets cell 1 to cell 0 and 1, and item k sets cell 1 + k to cell 1 and k
abbrev pub star : WorkShape
star = record {
  cells = 9;
  kind = star_kind;
  value = λ c. number (pos (5 + c));
  items = 8;
  preds = λ i. min i 1;
  next_count = λ i. 7 - 7 * i;
  next = λ i k. k + 1;
  steps = λ i. 1;
  target = λ i j. i + 1;
  read_count = λ i j. 1;
  read = λ i j r. min i 1;
  max_reads = 1;
  max_stack = 0;
}
