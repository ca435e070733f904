use Rattle.std.proofs.Common.{arith}
use Rattle.lane_rows.proofs.Lanes.{row_of-or}
use Rattle.lane_rows.proofs.words.union.Goals as goal

pub returns : goal.returns
returns c = record { joined = row_of-or c.args.words c.args.other (omega arith) }
