use Rattle.ftl_relayout.proofs.laws.Hits.{readers_are_near}
use Rattle.ftl_relayout.proofs.laws.readers_are_near.Goals as goal

pub returns : goal.returns
returns c = record { near = readers_are_near }
