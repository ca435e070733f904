use Rattle.std.proofs.Common.{◌∙◌, ap}
use Rattle.ftl_tree.specs.boxes.Shows.{node_shows}
use Rattle.ftl_tree.specs.trees.CheckedTree.{CheckedTree}
use Rattle.maugzeris.proofs.pages.NodeAttributes.{shown_all}
use Rattle.maugzeris.proofs.pages.page.Page.shown.Goals as goal

pub returns : goal.returns
returns c =
    let are = c.shown_by.ensures.shown ∙ ap (λ (t : CheckedTree). node_shows t c.args.node) c.tree.ensures.tree in
    record {
      shown = are;
      known =
          shown_all c.args.self.now c.tree.ensures.is_tree c.args.node c.requires.node c.shown_by.result.now are;
    }
