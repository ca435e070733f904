use Rattle.std.proofs.Common.{◌≡◌, sum, take}
use Rattle.ftl_tree.specs.rows.Rows.{sums_from}
use Rattle.ftl_tree.proofs.rows.columns.sums.Given as goal

-- the sums so far
abbrev pub invariant-loop-number : goal.invariant-loop-number
invariant-loop-number l = record {
  sums : l.sums.items ≡ sums_from 0 (take l.number-index l.numbers);
  total : l.sum ≡ sum (take l.number-index l.numbers);
}
