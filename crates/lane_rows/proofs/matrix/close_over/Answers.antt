use Rattle.std.proofs.Common.{◌∙◌, ap₂, arith}
use Rattle.std.specs.FinSet as set
use Rattle.lane_rows.proofs.Rows.{entry-joined, get_or-any}
use Rattle.lane_rows.proofs.matrix.close_over.Goals as goal

pub returns-clause-over : goal.returns-clause-over
returns-clause-over c =
    let rows = c.args.rows.now in
    let row = get_or-any rows c.args.pivot c.index-rows-pivot.result set.empty c.requires.pivot in
    entry-joined rows c.args.pivot c.union_into.new.self c.loop-row.rows c.loop-row.row (omega arith)
    (c.union_into.ensures.joined ∙ ap₂ (λ s t. set.union s t) c.empty-through.ensures.none row) c.loop-row.invariant
