use Rattle.ftl_noncircular.proofs.grammars.WorkedLevels.{back_lawful, back_noncircular, by_prev_lawful, by_prev_noncircular, stack_noncircular, twisted_lawful, twisted_noncircular}
use Rattle.ftl_noncircular.proofs.grammars.worked.noncircular_grammars.Goals as goal

pub returns : goal.returns
returns c = record {
  stack = stack_noncircular;
  twisted = (twisted_lawful, twisted_noncircular);
  by_prev = (by_prev_lawful, by_prev_noncircular);
  back = (back_lawful, back_noncircular);
}
