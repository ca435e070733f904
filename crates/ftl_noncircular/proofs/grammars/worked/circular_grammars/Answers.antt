use Rattle.ftl_noncircular.proofs.grammars.WorkedCircles.{by_fold_circular, by_itself_circular, by_kid_circular, by_listed_kid_circular, by_this_circular}
use Rattle.ftl_noncircular.proofs.grammars.WorkedPrevCircles.{by_prev_and_self_circular, by_prev_and_single_circular, by_prev_in_kid_circular}
use Rattle.ftl_noncircular.proofs.grammars.worked.circular_grammars.Goals as goal

pub returns : goal.returns
returns c = record {
  by_itself = by_itself_circular;
  by_this = by_this_circular;
  by_fold = by_fold_circular;
  by_kid = by_kid_circular;
  by_listed_kid = by_listed_kid_circular;
  by_prev_and_self = by_prev_and_self_circular;
  by_prev_and_single = by_prev_and_single_circular;
  by_prev_in_kid = by_prev_in_kid_circular;
}
