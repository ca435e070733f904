use Rattle.ftl_relayout.proofs.laws.Hits.{reads_are_hits}
use Rattle.ftl_relayout.proofs.laws.reads_are_hits.Goals as goal

pub returns : goal.returns
returns c = record { hits = reads_are_hits }
