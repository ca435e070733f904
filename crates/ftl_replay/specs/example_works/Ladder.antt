-- Two chains of items side by side, for tests: each item waits for the one two before it, and has two steps.
use Rattle.std.specs.Prelude.{ℕ, zero, suc, ◌+◌, ◌-◌, ◌*◌, min, pos}
use Rattle.ftl_model.specs.layout.Values.{number}
use Rattle.ftl_cells.specs.shared.Shape.{WorkShape}
use Rattle.ftl_cells.specs.declared.shared.kind.CellKind.{CellKind}
use Rattle.ftl_cells.specs.declared.shared.kind.CellKind.TheVariants.{Given, Target}

abbrev pub ladder_kind : ℕ → CellKind
ladder_kind zero = Given
ladder_kind (suc zero) = Given
ladder_kind (suc (suc c)) = Target

-- the first step reads a Given cell or the last cell of the item two before, and the second what the first filled
abbrev pub ladder_read : ℕ → ℕ → ℕ
ladder_read i zero = 2 * i - 1
ladder_read i (suc j) = 2 * i + 2

-- cells 0 and 1 are Given, item i fills the cells 2i + 2 and 2i + 3, and each cell has its own number
abbrev pub ladder : ℕ → WorkShape
ladder n = record {
  cells = 2 * n + 2;
  kind = ladder_kind;
  value = λ c. number (pos c);
  items = n;
  preds = λ i. min (i - 1) 1;
  next_count = λ i. min 1 (n - (i + 2));
  next = λ i k. i + 2;
  steps = λ i. 2;
  target = λ i j. 2 * i + 2 + j;
  read_count = λ i j. 1;
  read = λ i j r. ladder_read i j;
  max_reads = 1;
  max_stack = 0;
}
