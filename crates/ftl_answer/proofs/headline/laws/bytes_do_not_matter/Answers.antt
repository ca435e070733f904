use Rattle.ftl_answer.proofs.headline.Bytes.{answer_same}
use Rattle.ftl_answer.proofs.headline.laws.bytes_do_not_matter.Goals as goal

pub returns : goal.returns
returns c = record { same = answer_same }
