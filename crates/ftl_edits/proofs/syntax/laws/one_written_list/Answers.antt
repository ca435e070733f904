use Rattle.ftl_edits.proofs.syntax.Edits.{one_written_list}
use Rattle.ftl_edits.proofs.syntax.laws.one_written_list.Goals as goal

pub returns : goal.returns
returns c = record { same = one_written_list }
