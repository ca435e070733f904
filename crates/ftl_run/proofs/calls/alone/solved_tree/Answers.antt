use Rattle.std.proofs.Common.{Ok, refl}
use Rattle.ftl_run.specs.declared.calls.task.Task.TheVariants.{Edit, Show}
use Rattle.ftl_run.proofs.calls.Leading.{as_task}
use Rattle.ftl_run.proofs.calls.alone.solved_tree.Goals as goal

pub returns-in_ok-tree_shown-in-Show : goal.returns-in_ok-tree_shown-in-Show
returns-in_ok-tree_shown-in-Show c = record {
  outcome =
      as_task c.args.task (Show c.in-Show.shown) c.args.tree.checked c.args.checked.now c.args.tree.tree
      (Ok c.in_ok-tree_shown-in-Show.field-0) c.in-Show.is c.requires.grammar c.in_ok-tree_shown-in-Show.ensures.outcome;
}

pub returns-in-Edit : goal.returns-in-Edit
returns-in-Edit c = record {
  outcome =
      as_task c.args.task (Edit c.in-Edit.edits) c.args.checked.now c.args.checked.now c.args.tree.tree
      c.edited_tree.result c.in-Edit.is refl c.edited_tree.ensures.outcome;
}
