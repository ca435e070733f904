use Rattle.ftl_nests.proofs.HostedOrder.{region_least, region_set}
use Rattle.ftl_nests.proofs.laws.regions.Goals as goal

pub returns : goal.returns
returns c = record { is_set = region_set; is_least = region_least }
