use Rattle.std.proofs.Common.{◌++◌, string_bytes}
use Rattle.std.specs.Prelude.{codes}
use Rattle.ftl_showing.specs.lines.Details.{attribute_lines}
use Rattle.ftl_showing.specs.lines.Lines.{head_text}
use Rattle.ftl_showing.proofs.lines.DetailLemmas.{one_more}
use Rattle.ftl_showing.proofs.lines.details.node_lines.Goals as goal

pub loop-attr-preserved : goal.loop-attr-preserved
loop-attr-preserved c =
    let p = c.args.page.now in
    one_more (attribute_lines p c.in_ok-width.width c.args.node) c.attributes-attributes.result.now
    c.loop-attr.attr-index 0 (head_text p c.args.node ++ codes "\n") (string_bytes c.loop-attr.out)
    (string_bytes c.push_attribute.new.out) c.loop-attr-test.true c.loop-attr.invariant
    c.in_ok-push_attribute.ensures.text
