use Rattle.std.proofs.Common.{sym, ◌∙◌}
use Rattle.ftl_deps.specs.reads.Meant.{meant}
use Rattle.ftl_model.specs.layout.Path.{node_at}
use Rattle.ftl_example.proofs.nests.examples.Nearest.{nearest_here, steps_up}
use Rattle.ftl_example.proofs.nests.examples.host.nearest.Goals as goal

pub loop-host-smaller : goal.loop-host-smaller
loop-host-smaller c =
    (steps_up c.args.tree.now.tree c.args.class (meant c.args.tree.now.checked) c.node_count-nodes.ensures.is_tree
    c.loop-host.host c.in-Some.parent c.loop-host.invariant.0
    (λ e. c.loop-host-test.true (c.class.ensures.class ∙ e)) (sym c.in-Some.is ∙ c.parent.ensures.parent)).smaller

pub loop-host-preserved : goal.loop-host-preserved
loop-host-preserved c =
    let up =
    steps_up c.args.tree.now.tree c.args.class (meant c.args.tree.now.checked) c.node_count-nodes.ensures.is_tree
    c.loop-host.host c.in-Some.parent c.loop-host.invariant.0
    (λ e. c.loop-host-test.true (c.class.ensures.class ∙ e)) (sym c.in-Some.is ∙ c.parent.ensures.parent) in
    (up.within, up.same ∙ c.loop-host.invariant.1)

pub returns-clause-nearest : goal.returns-clause-nearest
returns-clause-nearest c =
    nearest_here c.args.tree.now.tree c.args.class (node_at c.args.tree.now.tree c.loop-host.host)
    (sym c.class.ensures.class ∙ c.loop-host-test.false)
    ∙ c.loop-host.invariant.1
