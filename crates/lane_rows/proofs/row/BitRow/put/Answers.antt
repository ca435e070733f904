use Rattle.std.proofs.Common.{◌∙◌, ap, arith}
use Rattle.std.specs.FinSet as set
use Rattle.lane_rows.proofs.Bits.{row_of-put}
use Rattle.lane_rows.proofs.row.BitRow.put.Goals as goal

pub returns : goal.returns
returns c = record {
  added = row_of-put c.self.inside.words c.args.bit (omega arith) ∙ ap (λ s. set.insert s c.args.bit) c.self.view_is;
}
