use Rattle.std.proofs.Common.{◌≡◌, ◌<◌, subst, sym}
use Rattle.ftl_deps.specs.reads.Meant.{meant}
use Rattle.ftl_model.specs.layout.Path.{top}
use Rattle.ftl_model.specs.layout.Solves.{instance_of}
use Rattle.ftl_model.specs.layout.Table.{instance_count}
use Rattle.ftl_plan.specs.cells.NodeCells.{IsCellOf}
use Rattle.ftl_tree.specs.trees.CheckedTree.{CheckedTree}
use Rattle.maugzeris.proofs.pages.InstanceNumbers.{node_standing}
use Rattle.maugzeris.proofs.pages.page.Page.node_of.Goals as goal

pub node_of_cell-requires : goal.node_of_cell-requires
node_of_cell-requires c = record {
  cell =
      subst (λ (t : CheckedTree). c.args.instance < instance_count (meant t.checked) t.tree) (sym c.tree.ensures.tree)
      c.requires.instance;
}

pub returns : goal.returns
returns c =
    let p = c.args.self.now in
    let is : IsCellOf (meant p.checked) p.tree c.node_of_cell.result c.args.instance =
    subst (λ (t : CheckedTree). IsCellOf (meant t.checked) t.tree c.node_of_cell.result c.args.instance)
    c.tree.ensures.tree c.node_of_cell.ensures.node in
    record {
      node =
          node_standing (meant p.checked) c.tree.ensures.lawful p.tree c.tree.ensures.is_tree c.node_of_cell.result
          c.args.instance (instance_of top 0) is;
      known = is.known;
    }
