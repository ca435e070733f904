use Rattle.ftl_host_cursors.proofs.HostTargets.{visit_is}
use Rattle.ftl_host_cursors.proofs.ItemTargets.{item_is}
use Rattle.ftl_host_cursors.proofs.laws.host_visits.Goals as goal

pub returns : goal.returns
returns c = record {
  visits = λ g t law fits whole pass host inner stand kind few n known.
      visit_is g t law fits n known pass kind inner whole few host stand;
  items = λ g t law fits whole pass host inner stand kind few s grain stage x is there.
      item_is g t law fits pass host inner kind s grain stage x there whole is stand few;
}
