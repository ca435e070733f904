-- The text computes, digits included.
use Rattle.std.proofs.Common.{refl}
use Rattle.std.specs.Fmt.{digits}
use Rattle.ftl_answer.proofs.answers.worked.worked_summaries.Goals as goal

pub returns : goal.returns
unfolding digits
returns c = record {
  two_pieces = refl;
  too_high = refl;
  overflows = refl;
  sum = refl;
  mix = refl;
  last_place = refl;
  next_place = refl;
}
