use Rattle.ftl_replay.proofs.interleavings.Leads.{does_makes}
use Rattle.ftl_replay.proofs.interleavings.Fits.{step_fits}
use Rattle.ftl_replay.proofs.interleavings.laws.events_are_steps.Goals as goal

pub returns : goal.returns
returns c = record { makes = does_makes; fits = step_fits }
