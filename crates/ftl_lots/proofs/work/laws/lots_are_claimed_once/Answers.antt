use Rattle.ftl_cells.specs.shared.Shape.{listed}
use Rattle.ftl_cells.proofs.shared.Runs.{won_once}
use Rattle.ftl_lots.specs.work.Loose.{loose}
use Rattle.ftl_lots.proofs.work.LooseLaws.{loose_is_lawful}
use Rattle.ftl_lots.proofs.work.laws.lots_are_claimed_once.Goals as goal

pub returns : goal.returns
returns c = record {
  once = λ w first next later last all more many most h g lot k one run other.
      won_once (listed (loose w)) (loose_is_lawful w) first next later last all more many most h g lot k one run other;
}
