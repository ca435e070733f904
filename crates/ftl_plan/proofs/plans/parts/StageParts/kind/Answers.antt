use Rattle.std.proofs.Common.{◌<◌, ◌∙◌, ap, get_or, subst, sym}
use Rattle.ftl_deps.specs.reads.Meant.{meant}
use Rattle.ftl_items.specs.stage_items.StageWork.{kind_of, no_instance}
use Rattle.ftl_model.specs.layout.Table.{instance_count, instances}
use Rattle.ftl_tree.specs.trees.CheckedTree.{CheckedTree}
use Rattle.ftl_nests.specs.Nests.{outer_schedule}
use Rattle.ftl_plan.specs.plans.StageParts.{schedule_of}
use Rattle.ftl_plan.proofs.plans.Bridge.{cell_known, kind_is, sound_there, tables_there}
use Rattle.ftl_plan.proofs.plans.parts.StageParts.kind.Goals as goal

pub cell_kind-requires-clause-sound : goal.cell_kind-requires-clause-sound
cell_kind-requires-clause-sound c =
    sound_there c.args.self.now c.requires.fit c.tree.result.now c.tree.ensures.tree

pub cell_kind-requires-clause-tables : goal.cell_kind-requires-clause-tables
cell_kind-requires-clause-tables c =
    tables_there c.args.self.now c.requires.fit c.tree.result.now c.tree.ensures.tree

pub cell_kind-requires-clause-cell : goal.cell_kind-requires-clause-cell
cell_kind-requires-clause-cell c =
    subst (λ (t : CheckedTree). c.args.cell < instance_count (meant t.checked) t.tree) (sym c.tree.ensures.tree)
    (cell_known c.args.self.now c.requires.fit c.args.cell c.requires.cell)

pub returns : goal.returns
returns c =
    let w = c.args.self.now in
    record {
      kind =
          c.cell_kind.ensures.kind
          ∙ ap
          (λ (t : CheckedTree). kind_of (meant t.checked) (outer_schedule (schedule_of w)) w.stage
          (get_or (instances (meant t.checked) t.tree) c.args.cell no_instance))
          c.tree.ensures.tree
          ∙ kind_is w c.requires.fit c.args.cell c.requires.cell;
    }
