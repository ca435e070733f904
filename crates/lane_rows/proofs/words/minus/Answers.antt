use Rattle.std.proofs.Common.{arith}
use Rattle.lane_rows.proofs.Lanes.{row_of-and_not}
use Rattle.lane_rows.proofs.words.minus.Goals as goal

pub returns : goal.returns
returns c = record { left = row_of-and_not c.args.words c.args.other (omega arith) c.fits-other.1 }
