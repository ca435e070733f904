-- The rule of the step has these parts.
use Rattle.std.proofs.Common.{◌≡◌, ◌+◌, ◌<◌, map, subst, sym, ap, ◌∙◌, arith}
use Rattle.std.proofs.lemmas.Grind.{common_steps}
use Rattle.ftl_deps.specs.declared.parts.rule_parts.RuleParts.TheVariants.{FirstThen, FoldOver, Plain}
use Rattle.ftl_deps.specs.parts.RuleParts.{parts_meant, read_meant}
use Rattle.ftl_deps.specs.reads.Meant.{meant}
use Rattle.ftl_model.specs.layout.AttributeGrammar.{Parts, first_part, plain_part, then_part}
use Rattle.ftl_order.specs.steps.Steps.{target_of}
use Rattle.ftl_step_value.specs.value.Sites.{IsPartFor}
use Rattle.ftl_visit.specs.step_reads.StepReads.{AreOfChildren, children_in, kids_in}
use Rattle.ftl_relayout.specs.laws.TreeNets.{cost_at, parts_cost}
use Rattle.ftl_relayout.proofs.values.OneParts.{first_alone, later_alone, plain_alone}
use Rattle.ftl_relayout.proofs.values.StepCosts.{step_cost}
use Rattle.ftl_relayout.proofs.values.step.value_of.Goals as goal

pub one_part-requires-in-FirstThen-clause-part : goal.one_part-requires-in-FirstThen-clause-part
one_part-requires-in-FirstThen-clause-part c =
    let first = c.as_slice-reads-in-FirstThen.result.now in
    let later = c.in-FirstThen.field-1 in
    let same : c.step_parts.result.now ≡ FirstThen first later = grind (arith, common_steps) in
    subst (λ (p : Parts). IsPartFor p c.args.step.kid first_part (map read_meant first))
    (sym (ap parts_meant same) ∙ c.step_parts.ensures.parts)
    (first_alone (map read_meant first) (map read_meant later) c.args.step.kid c.if-step-eq0.true)

pub one_part-requires-in-FirstThen-clause-children : goal.one_part-requires-in-FirstThen-clause-children
one_part-requires-in-FirstThen-clause-children c =
    let t = c.args.site.now.tree.now in
    let first = c.as_slice-reads-in-FirstThen.result.now in
    let later = c.in-FirstThen.field-1 in
    let same : c.step_parts.result.now ≡ FirstThen first later = grind (arith, common_steps) in
    (subst (λ (p : Parts). AreOfChildren (children_in t c.args.step.node) p) (ap parts_meant same)
    c.step_parts.ensures.may.children).0

pub one_part-requires-in-FirstThen-2-clause-part : goal.one_part-requires-in-FirstThen-2-clause-part
one_part-requires-in-FirstThen-2-clause-part c =
    let first = c.in-FirstThen-2.field-0 in
    let later = c.as_slice-reads-in-FirstThen-2.result.now in
    let same : c.step_parts.result.now ≡ FirstThen first later = grind (arith, common_steps) in
    let not_first = c.if-step-eq0.false in
    let some : 0 < c.args.step.kid = grind (arith, not_first) in
    subst (λ (p : Parts). IsPartFor p c.args.step.kid then_part (map read_meant later))
    (sym (ap parts_meant same) ∙ c.step_parts.ensures.parts)
    (later_alone (map read_meant first) (map read_meant later) c.args.step.kid some)

pub one_part-requires-clause-part : goal.one_part-requires-clause-part
one_part-requires-clause-part c =
    let reads = c.as_slice-reads.result.now in
    let same : c.step_parts.result.now ≡ Plain reads = grind (arith, common_steps) in
    subst (λ (p : Parts). IsPartFor p c.args.step.kid plain_part (map read_meant reads))
    (sym (ap parts_meant same) ∙ c.step_parts.ensures.parts)
    (plain_alone (map read_meant reads) c.args.step.kid)

pub fold_value-requires-clause-children : goal.fold_value-requires-clause-children
fold_value-requires-clause-children c =
    let t = c.args.site.now.tree.now in
    let child = c.in-FoldOver.child in
    let start = c.as_slice.result.now in
    let each = c.as_slice-in-FoldOver.result.now in
    let same : c.step_parts.result.now ≡ FoldOver child start each = grind (arith, common_steps) in
    subst (λ (p : Parts). AreOfChildren (children_in t c.args.step.node) p) (ap parts_meant same)
    c.step_parts.ensures.may.children

pub returns-in-FoldOver-clause-count : goal.returns-in-FoldOver-clause-count
returns-in-FoldOver-clause-count c =
    let t = c.args.site.now.tree.now in
    let g = meant t.checked in
    let x = c.args.step in
    let kids = kids_in t x.node in
    let child = c.in-FoldOver.child in
    let start = c.as_slice.result.now in
    let each = c.as_slice-in-FoldOver.result.now in
    let same : c.step_parts.result.now ≡ FoldOver child start each = grind (arith, common_steps) in
    let cost : cost_at g t.tree (target_of g t.tree x) ≡ 1 + kids child =
    step_cost g t.tree c.requires.site.sound.law c.node_count-nodes.ensures.is_tree x c.requires.step
    ∙ ap (λ p. parts_cost p kids) (sym c.step_parts.ensures.parts ∙ ap parts_meant same) in
    let count = c.fold_value.ensures.count in
    omega (arith, count, cost)
