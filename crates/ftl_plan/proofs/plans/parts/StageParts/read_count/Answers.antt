use Rattle.std.proofs.Common.{◌∙◌, ap, length}
use Rattle.ftl_deps.specs.reads.Meant.{meant}
use Rattle.ftl_order.specs.orders.Reads.{reads_of}
use Rattle.ftl_order.specs.steps.Steps.{target_of}
use Rattle.ftl_tree.specs.trees.CheckedTree.{CheckedTree}
use Rattle.ftl_plan.proofs.plans.Bridge.{read_total_is, sound_there, step_there, tables_there}
use Rattle.ftl_plan.proofs.plans.parts.StageParts.read_count.Goals as goal

pub read_count-requires-clause-sound : goal.read_count-requires-clause-sound
read_count-requires-clause-sound c =
    sound_there c.args.self.now c.requires.fit c.tree.result.now c.tree.ensures.tree

pub read_count-requires-clause-tables : goal.read_count-requires-clause-tables
read_count-requires-clause-tables c =
    tables_there c.args.self.now c.requires.fit c.tree.result.now c.tree.ensures.tree

pub read_count-requires-clause-step : goal.read_count-requires-clause-step
read_count-requires-clause-step c =
    step_there c.args.self.now c.requires.fit c.tree.result.now c.tree.ensures.tree
    c.step.result c.step.ensures.step.is_step

pub returns : goal.returns
returns c =
    let w = c.args.self.now in
    record {
      count =
          c.read_count.ensures.count
          ∙ ap
          (λ (t : CheckedTree). length
          (reads_of (meant t.checked) t.tree (target_of (meant t.checked) t.tree c.step.result)))
          c.tree.ensures.tree
          ∙ read_total_is w c.requires.fit c.args.item c.args.step c.step.result c.requires.step c.step.ensures.step;
    }
