use Rattle.ftl_document.specs.pass.Steps.{HasPlainNames}
use Rattle.ftl_document.proofs.pass.Steps.{up_to}
use Rattle.ftl_document.proofs.pass.names.names_are_plain.Goals as goal

pub loop-class-preserved : goal.loop-class-preserved
loop-class-preserved c =
    up_to (HasPlainNames c.args.checked.now.grammar) c.loop-class.class c.loop-class.invariant
    (c.class_is_plain.ensures.plain c.if-not-class_is_plain.false)
