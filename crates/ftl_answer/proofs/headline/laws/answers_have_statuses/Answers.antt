use Rattle.ftl_answer.proofs.headline.Statuses.{answer_status}
use Rattle.ftl_answer.proofs.headline.laws.answers_have_statuses.Goals as goal

pub returns : goal.returns
returns c = record { status = answer_status }
