use Rattle.ftl_edits.proofs.meaning.Editable.{editable}
use Rattle.ftl_edits.proofs.meaning.laws.edits_name_inputs.Goals as goal

pub returns : goal.returns
returns c = record { editable = editable }
