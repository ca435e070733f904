use Rattle.ftl_showing.proofs.lines.fields.push_fields.Goals as goal

pub push_field-requires-clause-known : goal.push_field-requires-clause-known
push_field-requires-clause-known c = c.requires.known c.loop-attr.attr-index 0 c.loop-attr-test.true
