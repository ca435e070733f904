use Rattle.std.proofs.Common.{◌∙◌}
use Rattle.maugzeris.proofs.pages.NodeAttributes.{class_within}
use Rattle.maugzeris.proofs.pages.page.Page.class_name.Goals as goal

pub class_name-requires : goal.class_name-requires
class_name-requires c =
    let p = c.args.self.now in
    record {
      within =
          class_within p.checked c.tree-known.ensures.lawful p.tree c.tree-known.ensures.is_tree c.args.node
          c.requires.node c.checked.result.now c.class-class.result
          (c.checked.ensures.checked ∙ c.grammar.ensures.grammar) c.class-class.ensures.class;
    }
