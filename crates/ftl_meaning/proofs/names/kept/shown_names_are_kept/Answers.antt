use Rattle.ftl_meaning.proofs.names.Printed.{shows_each_name, shows_in_order, shows_its_names, shows_its_own}
use Rattle.ftl_meaning.proofs.names.kept.shown_names_are_kept.Goals as goal

pub returns : goal.returns
returns c = record {
  shown = shows_its_names;
  own = shows_its_own;
  order = shows_in_order;
  names = shows_each_name;
}
