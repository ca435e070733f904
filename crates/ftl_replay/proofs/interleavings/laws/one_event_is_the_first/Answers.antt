use Rattle.ftl_replay.proofs.interleavings.OneLead.{nowhere, one_place}
use Rattle.ftl_replay.proofs.interleavings.laws.one_event_is_the_first.Goals as goal

pub returns : goal.returns
returns c = record { nowhere = nowhere; one = one_place }
