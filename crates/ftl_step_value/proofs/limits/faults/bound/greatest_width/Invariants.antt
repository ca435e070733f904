use Rattle.std.proofs.Common.{◌≤◌, All, length, take}
use Rattle.ftl_step_value.proofs.limits.faults.bound.greatest_width.Given as goal

abbrev pub invariant-loop-row : goal.invariant-loop-row
invariant-loop-row l = record {
  within : All (λ row. length row ≤ l.widest) (take l.row-index l.rows);
  narrow : l.widest ≤ 128;
}
