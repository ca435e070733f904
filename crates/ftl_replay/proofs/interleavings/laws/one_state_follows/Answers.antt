use Rattle.ftl_replay.proofs.interleavings.Results.{one_state}
use Rattle.ftl_replay.proofs.interleavings.laws.one_state_follows.Goals as goal

pub returns : goal.returns
returns c = record { one = one_state }
