use Rattle.std.proofs.Common.{◌∙◌}
use Rattle.maugzeris.proofs.pages.NodeAttributes.{attribute_within}
use Rattle.maugzeris.proofs.pages.page.Page.attribute_name.Goals as goal

pub attr_name-requires : goal.attr_name-requires
attr_name-requires c =
    let p = c.args.self.now in
    record {
      within =
          attribute_within p.checked c.tree-known.ensures.lawful p.tree c.tree-known.ensures.is_tree c.args.node
          c.requires.node c.checked.result.now (c.checked.ensures.checked ∙ c.grammar.ensures.grammar) c.args.attr
          c.requires.attribute;
    }
