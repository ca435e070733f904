use Rattle.ftl_nests.proofs.RowsRefused.{line_refused_by_sides, ph_refused, rh_refused, slot_refused_by_sides}
use Rattle.ftl_nests.proofs.worked.refused_nests.Goals as goal

pub returns : goal.returns
returns c = record {
  bottomup = rh_refused;
  topdown = ph_refused;
  own = slot_refused_by_sides;
  inner = line_refused_by_sides;
}
