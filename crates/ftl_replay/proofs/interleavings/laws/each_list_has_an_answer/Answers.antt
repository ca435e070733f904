use Rattle.ftl_replay.proofs.interleavings.Decided.{some_answer}
use Rattle.ftl_replay.proofs.interleavings.laws.each_list_has_an_answer.Goals as goal

pub returns : goal.returns
returns c = record { some = some_answer }
