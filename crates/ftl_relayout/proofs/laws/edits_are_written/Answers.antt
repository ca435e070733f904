use Rattle.ftl_relayout.proofs.laws.EditsWritten.{edits_written}
use Rattle.ftl_relayout.proofs.laws.edits_are_written.Goals as goal

pub returns : goal.returns
returns c = record { written = edits_written }
