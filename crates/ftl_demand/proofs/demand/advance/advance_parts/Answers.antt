-- A rule has one part, one for the first kid and one for the others, or a fold.
use Rattle.std.proofs.Common.{◌≡◌, ◌<◌, ap, arith, map, subst, sym, ◌∙◌}
use Rattle.std.proofs.lemmas.Grind.{common_steps}
use Rattle.ftl_deps.specs.declared.parts.rule_parts.RuleParts.TheVariants.{FirstThen, FoldOver}
use Rattle.ftl_deps.specs.parts.RuleParts.{parts_meant, read_meant}
use Rattle.ftl_model.specs.layout.AttributeGrammar.{Parts, first_part, then_part}
use Rattle.ftl_step_value.specs.value.Sites.{IsPartFor}
use Rattle.ftl_visit.specs.step_reads.StepReads.{AreOfChildren, children_in}
use Rattle.ftl_demand.proofs.demand.OneParts.{first_alone, later_alone}
use Rattle.ftl_demand.proofs.demand.advance.advance_parts.Goals as goal

pub one_part-requires-in-FirstThen-clause-part : goal.one_part-requires-in-FirstThen-clause-part
one_part-requires-in-FirstThen-clause-part c =
    let first = c.as_slice-in-FirstThen.result.now in
    let later = c.in-FirstThen.field-1 in
    let k = c.args.top.now.step.kid in
    let same : c.step_parts.result.now ≡ FirstThen first later = grind (arith, common_steps) in
    subst (λ (p : Parts). IsPartFor p k first_part (map read_meant first))
    (sym (ap parts_meant same) ∙ c.step_parts.ensures.parts)
    (first_alone (map read_meant first) (map read_meant later) k c.if-step-eq0.true)

pub one_part-requires-in-FirstThen-2-clause-part : goal.one_part-requires-in-FirstThen-2-clause-part
one_part-requires-in-FirstThen-2-clause-part c =
    let first = c.in-FirstThen-2.field-0 in
    let later = c.as_slice-in-FirstThen-2.result.now in
    let k = c.args.top.now.step.kid in
    let same : c.step_parts.result.now ≡ FirstThen first later = grind (arith, common_steps) in
    let not_first = c.if-step-eq0.false in
    let some : 0 < k = grind (arith, not_first) in
    subst (λ (p : Parts). IsPartFor p k then_part (map read_meant later))
    (sym (ap parts_meant same) ∙ c.step_parts.ensures.parts)
    (later_alone (map read_meant first) (map read_meant later) k some)

pub advance_fold-requires-clause-children : goal.advance_fold-requires-clause-children
advance_fold-requires-clause-children c =
    let child = c.in-FoldOver.child in
    let start = c.as_slice-in-FoldOver.result.now in
    let each = c.as_slice-in-FoldOver-2.result.now in
    let same : c.step_parts.result.now ≡ FoldOver child start each = grind (arith, common_steps) in
    subst (λ (p : Parts). AreOfChildren (children_in c.args.site.now.tree.now c.args.top.now.step.node) p)
    (ap parts_meant same) c.step_parts.ensures.may.children
