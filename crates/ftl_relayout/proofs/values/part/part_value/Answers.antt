use Rattle.std.proofs.Common.{◌≤◌, length, arith}
use Rattle.std.specs.Vec.{with_items}
use Rattle.ftl_relayout.proofs.values.PartRuns.{runs_again}
use Rattle.ftl_relayout.proofs.values.part.part_value.Goals as goal

pub returns-clause-runs : goal.returns-clause-runs
returns-clause-runs c =
    let v = c.args.buffers.now.reads in
    let after = with_items v c.run_part.new.row in
    let long = after.ok.0 in
    let before = v.ok.0 in
    let room = c.requires.runs.reads in
    let z : 256 ≤ length after.items = omega (arith, long, before, room) in
    runs_again c.args.tree.now.checked c.args.runner.now c.run_part.new.runner c.args.buffers.now
    (record { reads = after; stack = c.run_part.new.stack })
    c.requires.runs c.run_part.ensures.programs c.run_part.ensures.room z
