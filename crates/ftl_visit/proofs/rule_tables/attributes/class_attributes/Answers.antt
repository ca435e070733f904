use Rattle.ftl_model.specs.layout.AttributeGrammar.{attributes_of}
use Rattle.ftl_deps.specs.reads.Meant.{meant}
use Rattle.ftl_visit.proofs.rule_tables.ByNumber.{next_entry}
use Rattle.ftl_visit.proofs.rule_tables.attributes.class_attributes.Goals as goal

pub loop-class-preserved : goal.loop-class-preserved
loop-class-preserved c =
    next_entry (attributes_of (meant c.args.checked.now)) c.loop-class.class c.loop-class.table c.push.new.self
    c.in_ok-attributes_of.field-0 c.in_ok-push.ensures.ok c.loop-class.invariant
    c.in_ok-attributes_of.ensures.attributes
