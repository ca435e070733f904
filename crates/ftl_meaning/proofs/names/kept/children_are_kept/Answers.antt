use Rattle.ftl_meaning.proofs.names.Standing.{child_interfaces, child_lists, children_counted}
use Rattle.ftl_meaning.proofs.names.kept.children_are_kept.Goals as goal

pub returns : goal.returns
returns c = record { count = children_counted; interface = child_interfaces; list = child_lists }
