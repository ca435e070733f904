use Rattle.ftl_answer.proofs.answers.WorkedRefusals.{empty_page, nothing, unknown}
use Rattle.ftl_answer.proofs.answers.worked.worked_refusals.Goals as goal

pub returns : goal.returns
returns c = record { nothing = nothing; unknown = unknown; empty_page = empty_page }
