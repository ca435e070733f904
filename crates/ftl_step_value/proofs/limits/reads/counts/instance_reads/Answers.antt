use Rattle.std.proofs.Common.{◌∙◌, sym}
use Rattle.ftl_model.specs.layout.Path.{node_at}
use Rattle.ftl_deps.specs.reads.Meant.{meant}
use Rattle.ftl_step_value.proofs.limits.reads.InstanceReads.{by_own_rule}
use Rattle.ftl_step_value.proofs.limits.reads.counts.instance_reads.Goals as goal

pub rule_reads-requires-clause-class : goal.rule_reads-requires-clause-class
rule_reads-requires-clause-class c =
    let t = c.args.tree.now in
    (by_own_rule (meant t.checked) c.requires.sound.law t.tree c.node_count-nodes.ensures.is_tree
    (node_at t.tree c.args.node) c.args.attr c.in-Some.rule (sym c.in-Some.ensures.rule)).class

pub rule_reads-requires-clause-rule : goal.rule_reads-requires-clause-rule
rule_reads-requires-clause-rule c =
    let t = c.args.tree.now in
    (by_own_rule (meant t.checked) c.requires.sound.law t.tree c.node_count-nodes.ensures.is_tree
    (node_at t.tree c.args.node) c.args.attr c.in-Some.rule (sym c.in-Some.ensures.rule)).within

pub returns-in-Some-clause-count : goal.returns-in-Some-clause-count
returns-in-Some-clause-count c =
    let t = c.args.tree.now in
    c.rule_reads.ensures.count
    ∙ sym
    (by_own_rule (meant t.checked) c.requires.sound.law t.tree c.node_count-nodes.ensures.is_tree
    (node_at t.tree c.args.node) c.args.attr c.in-Some.rule (sym c.in-Some.ensures.rule)).reads
