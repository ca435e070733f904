use Rattle.std.proofs.Common.{sym}
use Rattle.ftl_deps.specs.reads.Meant.{meant}
use Rattle.ftl_relayout.proofs.values.Writers.{own_writer}
use Rattle.ftl_relayout.proofs.values.writer.writer.Goals as goal

pub returns-in-Some-clause-step : goal.returns-in-Some-clause-step
returns-in-Some-clause-step c =
    let t = c.args.site.now.tree.now in
    (own_writer (meant t.checked) c.requires.site.sound.law t.tree c.node_count-nodes.ensures.is_tree c.args.node
    c.args.attr c.in-Some.rule c.requires.node (sym c.in-Some.ensures.rule)).step

pub returns-in-Some-clause-target : goal.returns-in-Some-clause-target
returns-in-Some-clause-target c =
    let t = c.args.site.now.tree.now in
    (own_writer (meant t.checked) c.requires.site.sound.law t.tree c.node_count-nodes.ensures.is_tree c.args.node
    c.args.attr c.in-Some.rule c.requires.node (sym c.in-Some.ensures.rule)).target
