use Rattle.std.proofs.Common.{◌≡◌, ◌≤◌, ◌*◌, length, map}
use Rattle.ftl_items.specs.numbers.ItemNumbers.{start_by}
use Rattle.ftl_schedule.specs.stages.Stages.{pass_of}
use Rattle.ftl_cursors.specs.items.HostRows.{cut_in}
use Rattle.ftl_cursors.proofs.items.Starts.{starts_to}
use Rattle.ftl_cursors.proofs.items.stage.pass_starts.Given as goal

abbrev pub invariant-loop-number : goal.invariant-loop-number
invariant-loop-number l = record {
  starts : l.starts.items ≡ starts_to (length (map pass_of l.passes)) (cut_in l.rows (map pass_of l.passes) l.cuts)
      l.rows.tree.now.tree l.number;
  start : l.start ≡ start_by (cut_in l.rows (map pass_of l.passes) l.cuts) l.rows.tree.now.tree l.number;
  bound : l.start ≤ l.number * 1048576;
}
