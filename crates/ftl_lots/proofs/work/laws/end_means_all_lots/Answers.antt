use Rattle.std.proofs.Common.{◌<◌, subst, sym}
use Rattle.ftl_cells.specs.shared.Shape.{listed}
use Rattle.ftl_cells.proofs.shared.Consequences.{end_tells}
use Rattle.ftl_lots.specs.work.Loose.{loose}
use Rattle.ftl_lots.proofs.work.LooseLaws.{loose_is_lawful, loose_items}
use Rattle.ftl_lots.proofs.work.laws.end_means_all_lots.Goals as goal

pub returns : goal.returns
returns c = record {
  lots = λ w words hands lot k zero l.
      end_tells (listed (loose w)) words hands (loose_is_lawful w) k zero lot
      (subst (λ n. lot < n) (sym (loose_items w)) l);
}
