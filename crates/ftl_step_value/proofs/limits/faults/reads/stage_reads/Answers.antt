use Rattle.std.proofs.Common.{◌≡◌, ap, ◌∙◌, subst, arith}
use Rattle.ftl_model.specs.layout.Tree.{size}
use Rattle.ftl_deps.specs.reads.Meant.{meant}
use Rattle.ftl_schedule.specs.stages.Stages.{stages_of}
use Rattle.ftl_step_value.specs.limits.faults.StageReads.{AreCounts, cells_before}
use Rattle.ftl_step_value.proofs.limits.faults.Cells.{cells_end}
use Rattle.ftl_step_value.proofs.limits.faults.reads.stage_reads.Goals as goal

pub returns : goal.returns
returns c =
    let t = c.args.tree.now in
    let g = meant t.checked in
    let fits = c.node_count-node-end.ensures.is_tree in
    let count = c.node_count-node-end.ensures.count in
    let past = c.loop-node-test.false in
    let most = c.loop-node.auto.node-end in
    let all : c.loop-node.node ≡ size t.tree = omega (arith, count, past, most) in
    record {
      counts =
          subst (λ n. AreCounts g (stages_of c.args.placed.now) t.tree n c.loop-node.counts.items)
          (ap (cells_before g t.tree) all ∙ cells_end g c.requires.sound.law t.tree fits) c.loop-node.invariant.so_far;
    }
