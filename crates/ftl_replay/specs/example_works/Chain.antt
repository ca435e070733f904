-- A chain of items, for tests: each reads the cell that the one before it filled, and adds 1.
use Rattle.std.specs.Prelude.{ℕ, zero, suc, ◌+◌, ◌-◌, min, pos}
use Rattle.ftl_model.specs.layout.Values.{number}
use Rattle.ftl_cells.specs.shared.Shape.{WorkShape}
use Rattle.ftl_cells.specs.declared.shared.kind.CellKind.{CellKind}
use Rattle.ftl_cells.specs.declared.shared.kind.CellKind.TheVariants.{Given, Target}

abbrev pub chain_kind : ℕ → CellKind
chain_kind zero = Given
chain_kind (suc c) = Target

-- cell 0 is Given with 0, and item i fills the cell after i
abbrev pub chain : ℕ → WorkShape
chain n = record {
  cells = n + 1;
  kind = chain_kind;
  value = λ c. number (pos c);
  items = n;
  preds = λ i. min i 1;
  next_count = λ i. min 1 (n - (i + 1));
  next = λ i k. i + 1;
  steps = λ i. 1;
  target = λ i j. i + 1;
  read_count = λ i j. 1;
  read = λ i j r. i;
  max_reads = 1;
  max_stack = 0;
}
