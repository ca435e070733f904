-- Eight items that wait for none, for tests: each adds 1 to a cell that is Given.
use Rattle.std.specs.Prelude.{ℕ, ◌+◌, ◌-◌, ◌*◌, min, cond, ltb, pos}
use Rattle.ftl_model.specs.layout.Values.{number}
use Rattle.ftl_cells.specs.shared.Shape.{WorkShape}
use Rattle.ftl_cells.specs.declared.shared.kind.CellKind.{CellKind}
use Rattle.ftl_cells.specs.declared.shared.kind.CellKind.TheVariants.{Given, Target}

abbrev pub eight_kind : ℕ → CellKind
eight_kind c = cond (ltb c 8) Given Target

-- cell k is Given with k, and item k sets cell 8 + k to k + 1
abbrev pub eight_alone : WorkShape
eight_alone = record {
  cells = 16;
  kind = eight_kind;
  value = λ c. number (pos (c - 7 * min 1 (c - 7)));
  items = 8;
  preds = λ i. 0;
  next_count = λ i. 0;
  next = λ i k. 0;
  steps = λ i. 1;
  target = λ i j. 8 + i;
  read_count = λ i j. 1;
  read = λ i j r. i;
  max_reads = 1;
  max_stack = 0;
}
