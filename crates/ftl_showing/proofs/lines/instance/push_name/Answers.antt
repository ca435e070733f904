-- The attribute is one of the instance's node.
use Rattle.std.proofs.Common.{◌≡◌, sym, subst}
use Rattle.maugzeris.specs.pages.PageState.{HasAttribute}
use Rattle.ftl_showing.proofs.lines.instance.push_name.Goals as goal

pub attribute_name-requires-clause-attribute : goal.attribute_name-requires-clause-attribute
attribute_name-requires-clause-attribute c =
    subst (λ n. HasAttribute c.args.page.now n c.attribute_of.result) (sym c.node_of-node.ensures.node)
    c.attribute_of.ensures.known
