-- An input's word would be there.
use Rattle.ftl_deps.specs.reads.Meant.{meant}
use Rattle.ftl_step_value.proofs.limits.reads.Entries.{there}
use Rattle.ftl_demand.specs.demand.Sites.{instance_at}
use Rattle.ftl_demand.proofs.demand.evaluate.waiting_step.Goals as goal

pub writer-requires-clause-computed : goal.writer-requires-clause-computed
writer-requires-clause-computed c = λ is.
    let t = c.args.site.now.tree.now in
    let g = meant t.checked in
    c.requires.words.inputs (instance_at t c.args.wanted) (
      there g c.requires.site.sound.law t.tree c.node_count-nodes.ensures.is_tree c.args.wanted.node
          c.requires.known.node,
      c.requires.known.attr,
    )
    is c.requires.lacking
