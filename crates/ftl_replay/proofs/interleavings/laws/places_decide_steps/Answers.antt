use Rattle.ftl_replay.proofs.interleavings.Stands.{step_exactly}
use Rattle.ftl_replay.proofs.interleavings.laws.places_decide_steps.Goals as goal

pub returns : goal.returns
returns c = record { exactly = step_exactly }
