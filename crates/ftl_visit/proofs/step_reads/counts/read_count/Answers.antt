use Rattle.std.proofs.Common.{◌≡◌, arith, ap, ap₂, ◌+◌, map, sym, ◌∙◌}
use Rattle.std.proofs.lemmas.Grind.{common_steps}
use Rattle.ftl_deps.specs.parts.RuleParts.{parts_meant, read_meant}
use Rattle.ftl_deps.specs.declared.parts.rule_parts.RuleParts.{RuleParts}
use Rattle.ftl_deps.specs.declared.parts.rule_parts.RuleParts.TheVariants.{FoldOver}
use Rattle.ftl_visit.specs.step_reads.StepReads.{kids_in, reads_here}
use Rattle.ftl_visit.proofs.step_reads.ReadCounts.{fold_reads}
use Rattle.ftl_visit.proofs.step_reads.counts.read_count.Goals as goal

pub returns-in-FoldOver-clause-count : goal.returns-in-FoldOver-clause-count
returns-in-FoldOver-clause-count c =
    let t = c.args.tree.now in
    let kids = kids_in t c.args.node in
    let start = c.as_slice-in-FoldOver.result.now in
    let step = c.as_slice-in-FoldOver-2.result.now in
    let same : c.args.parts.now ≡ FoldOver c.in-FoldOver.child start step = grind (arith, common_steps) in
    ap₂ (λ a b. a + b) c.seen_count-before.ensures.count c.step_count.ensures.count
    ∙ sym
    (fold_reads kids c.args.number (kids c.in-FoldOver.child) (map read_meant start) (map read_meant step))
    ∙ ap (λ (p : RuleParts). reads_here t c.args.node (parts_meant p) c.args.number) (sym same)
