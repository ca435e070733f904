use Rattle.lane_rows.proofs.Bits.{row_of-zeroes}
use Rattle.lane_rows.proofs.row.BitRow.empty.Goals as goal

pub returns : goal.returns
returns c = record {
  none = row_of-zeroes 32;
}
