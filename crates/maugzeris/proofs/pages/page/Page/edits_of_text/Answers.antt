use Rattle.std.proofs.Common.{subst}
use Rattle.ftl_edits.specs.meaning.Editable.{AreEditsOf}
use Rattle.ftl_tree.specs.trees.CheckedTree.{CheckedTree}
use Rattle.maugzeris.proofs.pages.page.Page.edits_of_text.Goals as goal

pub returns-in-Ok-clause-editable : goal.returns-in-Ok-clause-editable
returns-in-Ok-clause-editable c =
    subst (λ (t : CheckedTree). AreEditsOf t c.in-Ok.edits) c.tree.ensures.tree c.in-Ok.ensures.editable
