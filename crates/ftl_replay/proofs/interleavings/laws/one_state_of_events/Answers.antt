use Rattle.ftl_replay.proofs.interleavings.OneLead.{one_state_of, one_state_from}
use Rattle.ftl_replay.proofs.interleavings.laws.one_state_of_events.Goals as goal

pub returns : goal.returns
returns c = record { hands = one_state_of; places = one_state_from }
