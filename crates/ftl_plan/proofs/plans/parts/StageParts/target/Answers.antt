use Rattle.std.proofs.Common.{◌∙◌, ap}
use Rattle.ftl_deps.specs.reads.Meant.{meant}
use Rattle.ftl_step_value.specs.cells.ReadCells.{filled_cell}
use Rattle.ftl_tree.specs.trees.CheckedTree.{CheckedTree}
use Rattle.ftl_plan.proofs.plans.Bridge.{sound_there, step_there, target_is}
use Rattle.ftl_plan.proofs.plans.parts.StageParts.target.Goals as goal

pub target_cell-requires-clause-sound : goal.target_cell-requires-clause-sound
target_cell-requires-clause-sound c =
    sound_there c.args.self.now c.requires.fit c.tree.result.now c.tree.ensures.tree

pub target_cell-requires-clause-step : goal.target_cell-requires-clause-step
target_cell-requires-clause-step c =
    step_there c.args.self.now c.requires.fit c.tree.result.now c.tree.ensures.tree
    c.step.result c.step.ensures.step.is_step

pub returns : goal.returns
returns c =
    let w = c.args.self.now in
    record {
      target =
          c.target_cell.ensures.cell
          ∙ ap (λ (t : CheckedTree). filled_cell (meant t.checked) t.tree c.step.result) c.tree.ensures.tree
          ∙ target_is w c.requires.fit c.args.item c.args.step c.step.result c.requires.step c.step.ensures.step;
    }
