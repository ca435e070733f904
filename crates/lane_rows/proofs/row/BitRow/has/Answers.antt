use Rattle.std.proofs.Common.{◌==◌, ◌/◌, ◌%◌, get_or, ◌∙◌, sym, ap}
use Rattle.std.specs.FinSet as set
use Rattle.std.proofs.lemmas.Nat.Bits.{shr_and_one}
use Rattle.lane_rows.proofs.Bits.{contains-row_of}
use Rattle.lane_rows.proofs.row.BitRow.has.Goals as goal

pub returns : goal.returns
returns c = record {
  member =
      let words = c.self.inside.words in
      let bit = c.args.bit in
      ap (λ n. n == 1) (shr_and_one (get_or words (bit / 64) 0) (bit % 64))
      ∙ sym (contains-row_of words bit)
      ∙ ap (λ s. set.contains s bit) c.self.view_is;
}
