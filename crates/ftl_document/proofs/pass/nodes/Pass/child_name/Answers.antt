use Rattle.ftl_document.proofs.pass.Fields.{child_within}
use Rattle.ftl_document.proofs.pass.nodes.Pass.child_name.Goals as goal

pub field_name-requires-clause-place : goal.field_name-requires-clause-place
field_name-requires-clause-place c =
    child_within c.args.self.now.checked.now.grammar c.args.class c.args.child c.input_count.result
    c.input_count.ensures.count c.requires.child
