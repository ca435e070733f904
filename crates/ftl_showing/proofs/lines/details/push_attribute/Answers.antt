use Rattle.std.proofs.Common.{string_bytes}
use Rattle.ftl_showing.proofs.lines.DetailLemmas.{attribute_appended}
use Rattle.ftl_showing.proofs.lines.details.push_attribute.Goals as goal

pub returns : goal.returns
returns c = record {
  text =
      attribute_appended c.args.page.now c.args.width c.args.node c.args.attr c.instance-instance.result
      c.push_computed.result (string_bytes c.args.out.now) (string_bytes c.push_column.new.out)
      (string_bytes c.push_computed.new.out) c.in_ok-push_column.ensures.text c.instance-instance.ensures.number
      c.push_computed.ensures.text;
}
