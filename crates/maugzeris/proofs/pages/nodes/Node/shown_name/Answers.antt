use Rattle.maugzeris.proofs.pages.NodeAttributes.{shown_has}
use Rattle.maugzeris.proofs.pages.nodes.Node.shown_name.Goals as goal

pub attribute_name-requires-clause-attribute : goal.attribute_name-requires-clause-attribute
attribute_name-requires-clause-attribute c =
    let n = c.args.self.now in
    shown_has n.page.now c.tree-known.ensures.is_tree n.number n.known c.shown.result.now c.shown.ensures.shown
    c.args.place c.requires.place
