use Rattle.std.proofs.Common.{◌==◌, ◌&&◌, ◌||◌, ◌<◌, length, ◌∙◌, ap, arith}
use Rattle.std.specs.FinSet as set
use Rattle.lane_rows.specs.Matrix.{entry}
use Rattle.lane_rows.proofs.Rows.{entry-put, get_or-any}
use Rattle.lane_rows.proofs.matrix.BitMatrix.put.Goals as goal

pub returns-clause-added : goal.returns-clause-added
returns-clause-added c a b =
    let rows = c.self.inside.rows.items in
    let from = c.args.from in
    let to = c.args.to in
    let within : from < length rows = omega (arith, ap length c.self.view_is, c.requires.from) in
    let row = c.index_mut.ensures.value ∙ get_or-any rows from c.index_mut.result.now set.empty within in
    entry-put rows from to c.put.new.self within (c.put.ensures.added ∙ ap (λ s. set.insert s to) row) a b
    ∙ ap (λ m. ((a == from) && (b == to)) || entry m a b) c.self.view_is
