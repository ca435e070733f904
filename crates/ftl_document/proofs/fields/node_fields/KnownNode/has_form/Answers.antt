use Rattle.std.proofs.Common.{arith, ap, length}
use Rattle.ftl_document.proofs.fields.PlacedNames.{needed_length}
use Rattle.ftl_document.proofs.fields.node_fields.KnownNode.has_form.Goals as goal

pub child-many-requires-clause-child : goal.child-many-requires-clause-child
child-many-requires-clause-child c =
    let known = c.requires.known in
    let long = needed_length c.args.self.now.checked.now.grammar known.lawful c.args.self.now.class known.known in
    let names = ap length known.names in
    let inputs = known.inputs in
    let place = c.requires.place in
    let more = c.if-place-self.false in
    omega (arith, long, names, inputs, place, more)
