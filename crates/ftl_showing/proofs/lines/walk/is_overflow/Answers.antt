-- The attribute is one of the instance's node.
use Rattle.std.proofs.Common.{◌≡◌, sym, subst}
use Rattle.maugzeris.specs.pages.PageState.{HasAttribute}
use Rattle.ftl_showing.proofs.lines.walk.is_overflow.Goals as goal

pub value-requires-clause-attribute : goal.value-requires-clause-attribute
value-requires-clause-attribute c =
    subst (λ n. HasAttribute c.args.page.now n c.attribute_of-attr.result) (sym c.node_of-node.ensures.node)
    c.attribute_of-attr.ensures.known
