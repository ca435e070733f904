-- The attribute is one of the instance's node, and both are the instance's.
use Rattle.std.proofs.Common.{◌≡◌, ◌++◌, sym, subst, string_bytes}
use Rattle.std.specs.Result.{OnOk}
use Rattle.maugzeris.specs.pages.Instances.{attribute_of}
use Rattle.maugzeris.specs.pages.PageState.{HasAttribute}
use Rattle.ftl_showing.specs.lines.Details.{attribute_text}
use Rattle.ftl_showing.proofs.lines.instance.push_instance.Goals as goal

pub push_attribute-requires-clause-attribute : goal.push_attribute-requires-clause-attribute
push_attribute-requires-clause-attribute c =
    subst (λ n. HasAttribute c.args.page.now n c.attribute_of-attr.result) (sym c.node_of-node.ensures.node)
    c.attribute_of-attr.ensures.known

pub returns : goal.returns
returns c =
    let p = c.args.page.now in
    let out = string_bytes c.args.out.now in
    record {
      text =
          subst
          (λ n. OnOk c.push_attribute.result
          (string_bytes c.push_attribute.new.out ≡ out ++ attribute_text p n (attribute_of p c.args.instance)))
          c.node_of-node.ensures.node
          (subst
          (λ a. OnOk c.push_attribute.result
          (string_bytes c.push_attribute.new.out ≡ out ++ attribute_text p c.node_of-node.result a))
          c.attribute_of-attr.ensures.attribute c.push_attribute.ensures.text);
    }
