use Rattle.ftl_noncircular.proofs.grammars.WorkedCircles.{by_several_and_self_lawful, by_several_lawful}
use Rattle.ftl_noncircular.proofs.grammars.WorkedFirst.{by_kid_first, by_several_and_self_first, by_several_first}
use Rattle.ftl_noncircular.proofs.grammars.worked.first_circular_vertices.Goals as goal

pub returns : goal.returns
returns c = record {
  lawful = (by_several_and_self_lawful, by_several_lawful);
  own = by_several_and_self_first;
  of_a_list = by_several_first;
  of_a_child = by_kid_first;
}
