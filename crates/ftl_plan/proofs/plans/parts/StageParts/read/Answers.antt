use Rattle.std.proofs.Common.{◌<◌, ◌∙◌, ap, get_or, length, subst, sym}
use Rattle.ftl_deps.specs.reads.Meant.{meant}
use Rattle.ftl_step_value.specs.cells.ReadCells.{read_cells}
use Rattle.ftl_tree.specs.trees.CheckedTree.{CheckedTree}
use Rattle.ftl_plan.proofs.plans.Bridge.{read_known, reads_are, sound_there, step_there, tables_there}
use Rattle.ftl_plan.proofs.plans.parts.StageParts.read.Goals as goal

pub read_at-requires-clause-sound : goal.read_at-requires-clause-sound
read_at-requires-clause-sound c =
    sound_there c.args.self.now c.requires.fit c.tree.result.now c.tree.ensures.tree

pub read_at-requires-clause-tables : goal.read_at-requires-clause-tables
read_at-requires-clause-tables c =
    tables_there c.args.self.now c.requires.fit c.tree.result.now c.tree.ensures.tree

pub read_at-requires-clause-step : goal.read_at-requires-clause-step
read_at-requires-clause-step c =
    step_there c.args.self.now c.requires.fit c.tree.result.now c.tree.ensures.tree
    c.step.result c.step.ensures.step.is_step

pub read_at-requires-clause-place : goal.read_at-requires-clause-place
read_at-requires-clause-place c =
    subst (λ (t : CheckedTree). c.args.k < length (read_cells (meant t.checked) t.tree c.step.result))
    (sym c.tree.ensures.tree)
    (read_known c.args.self.now c.requires.fit c.args.item c.args.step c.step.result c.requires.step
    c.step.ensures.step c.args.k c.requires.place)

pub returns : goal.returns
returns c =
    let w = c.args.self.now in
    record {
      cell =
          c.read_at.ensures.cell
          ∙ ap (λ (t : CheckedTree). get_or (read_cells (meant t.checked) t.tree c.step.result) c.args.k 0)
          c.tree.ensures.tree
          ∙ ap (λ cells. get_or cells c.args.k 0)
          (reads_are w c.requires.fit c.args.item c.args.step c.step.result c.requires.step c.step.ensures.step);
    }
