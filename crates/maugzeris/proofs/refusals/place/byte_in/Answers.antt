use Rattle.maugzeris.proofs.refusals.Places.{told_of_sections}
use Rattle.maugzeris.proofs.refusals.place.byte_in.Goals as goal

pub returns : goal.returns
returns c =
    record {
      byte = told_of_sections c.args.line.now c.in_default.ensures.byte c.in_default-byte_of.ensures.byte
          c.in_default-byte_of-2.ensures.byte c.byte_of-4.result c.byte_of-4.ensures.byte;
    }
