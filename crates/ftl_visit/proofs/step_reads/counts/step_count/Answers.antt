use Rattle.std.proofs.Common.{◌+◌, ◌-◌, ◌*◌, ◌<◌, ap₂, arith, map, sym, ◌∙◌}
use Rattle.ftl_deps.specs.parts.RuleParts.{read_meant}
use Rattle.ftl_visit.specs.step_reads.StepReads.{kids_in}
use Rattle.ftl_visit.proofs.step_reads.ReadCounts.{step_reads}
use Rattle.ftl_visit.proofs.step_reads.counts.step_count.Goals as goal

pub returns-clause-count : goal.returns-clause-count
returns-clause-count c =
    let kids = kids_in c.args.tree.now c.args.node in
    let count = c.kid_count-kids.ensures.count in
    let some = c.if-kids-eq0.false in
    let more : 0 < kids c.args.child = grind (arith, count, some) in
    ap₂ (λ a b. a + b) c.seen_count-first.ensures.count
    (ap₂ (λ m n. (m - 1) * n) count c.seen_count-later.ensures.count)
    ∙ sym (step_reads kids (kids c.args.child) (map read_meant c.args.step.now) more)
