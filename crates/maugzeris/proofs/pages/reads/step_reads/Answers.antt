use Rattle.std.proofs.Common.{◌∙◌, ap, sym, subst}
use Rattle.ftl_deps.specs.reads.Meant.{meant}
use Rattle.ftl_step_value.specs.limits.reads.ReadTables.{AreTables}
use Rattle.ftl_step_value.specs.cells.ReadCells.{read_cells}
use Rattle.ftl_tree.specs.trees.CheckedTree.{CheckedTree}
use Rattle.maugzeris.proofs.pages.reads.step_reads.Goals as goal

pub new-requires-clause-tables : goal.new-requires-clause-tables
new-requires-clause-tables c =
    subst (λ (t : CheckedTree). AreTables (meant t.checked) c.args.tables.now) (sym c.tree.ensures.tree)
    c.requires.tables

pub returns : goal.returns
returns c = record {
  cells =
      c.new.ensures.cells
      ∙ ap (λ (t : CheckedTree). read_cells (meant t.checked) t.tree c.args.step) c.tree.ensures.tree;
}
