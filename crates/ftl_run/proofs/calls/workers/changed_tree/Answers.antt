use Rattle.std.proofs.Common.{◌∙◌}
use Rattle.ftl_run.proofs.calls.workers.changed_tree.Goals as goal

-- the schedule without nests is of the same grammar
pub edited_shown-requires-clause-accepted : goal.edited_shown-requires-clause-accepted
edited_shown-requires-clause-accepted g c = c.flat.ensures.flat.grammar ∙ c.requires.accepted
