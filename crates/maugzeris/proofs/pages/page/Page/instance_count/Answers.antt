use Rattle.std.proofs.Common.{◌∙◌, ap}
use Rattle.ftl_deps.specs.reads.Meant.{meant}
use Rattle.ftl_model.specs.layout.Table.{instance_count}
use Rattle.ftl_tree.specs.trees.CheckedTree.{CheckedTree}
use Rattle.maugzeris.proofs.pages.page.Page.instance_count.Goals as goal

pub returns-clause-count : goal.returns-clause-count
returns-clause-count c =
    c.instance_count.ensures.count
    ∙ ap (λ (t : CheckedTree). instance_count (meant t.checked) t.tree) c.tree.ensures.tree
