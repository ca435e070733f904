use Rattle.std.proofs.Common.{◌≡◌, ◌∙◌, ap, subst}
use Rattle.ftl_deps.specs.reads.Meant.{meant}
use Rattle.ftl_meaning.specs.faults.Checked.{CheckedGrammar}
use Rattle.ftl_model.specs.layout.TreeOf.{IsTreeOf}
use Rattle.ftl_order.specs.orders.Lawful.{IsLawful}
use Rattle.ftl_tree.specs.trees.CheckedTree.{CheckedTree}
use Rattle.maugzeris.specs.pages.PageState.{tree_on}
use Rattle.maugzeris.proofs.pages.SameTree.{same_tree}
use Rattle.maugzeris.proofs.pages.page.Page.tree.Goals as goal

pub returns : goal.returns
returns c =
    let is : c.self.inside.tree ≡ tree_on c.args.self.now =
    same_tree c.self.inside.tree c.self.inside.rules.now.checked c.self.invariant.tree
    ∙ ap tree_on c.self.view_is in
    record {
      tree = is;
      is_tree =
          subst (λ (t : CheckedTree). IsTreeOf (meant t.checked) t.tree) is c.node_count-nodes.ensures.is_tree;
      lawful =
          subst (λ (k : CheckedGrammar). IsLawful (meant k))
          (c.checked.ensures.checked
          ∙ (c.grammar.ensures.grammar ∙ ap (λ (t : CheckedTree). t.checked) (ap tree_on c.self.view_is)))
          c.is_sound.ensures.sound.law;
    }
