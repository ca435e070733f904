use Rattle.std.proofs.Common.{◌≡◌, [], get_or, ap, ◌∙◌, subst, sym}
use Rattle.ftl_model.specs.layout.AttributeGrammar.{Parts}
use Rattle.ftl_deps.specs.reads.Meant.{meant}
use Rattle.ftl_deps.specs.parts.RuleParts.{parts_meant}
use Rattle.ftl_visit.specs.step_reads.StepReads.{MayStandAt, reads_here}
use Rattle.ftl_step_value.specs.limits.reads.ReadTables.{class_in}
use Rattle.ftl_step_value.proofs.limits.reads.RuleReads.{parts_at, rule_may_stand}
use Rattle.ftl_deps.specs.declared.parts.rule_parts.RuleParts.{RuleParts}
use Rattle.ftl_deps.specs.declared.parts.rule_parts.RuleParts.TheVariants.{Plain}
use Rattle.std.proofs.Common.{map}
use Rattle.ftl_deps.specs.parts.RuleParts.{all_parts}
use Rattle.ftl_step_value.proofs.limits.reads.counts.rule_reads.Goals as goal

pub bounds-rows-rule : goal.bounds-rows-rule
bounds-rows-rule c =
    let g = meant c.args.tree.now.checked in
    let rows = c.as_slice-rows.result.now in
    let are : map parts_meant rows ≡ all_parts g = ap (map parts_meant) c.as_slice-rows.ensures ∙
    c.requires.tables.parts in
    let none : RuleParts = Plain [] in
    (parts_at g rows c.args.rule none are c.requires.rule).0

pub read_count-requires-clause-parts : goal.read_count-requires-clause-parts
read_count-requires-clause-parts c =
    let g = meant c.args.tree.now.checked in
    let rows = c.as_slice-rows.result.now in
    let are : map parts_meant rows ≡ all_parts g = ap (map parts_meant) c.as_slice-rows.ensures ∙
    c.requires.tables.parts in
    let here = (parts_at g rows c.args.rule c.index-rows-rule.result are c.requires.rule).1 in
    let may = rule_may_stand g c.requires.sound (class_in c.args.tree.now c.args.node) c.args.rule c.requires.rule
    c.requires.class in
    let whole : MayStandAt c.args.tree.now c.args.node (parts_meant (get_or rows c.args.rule
    c.index-rows-rule.result)) =
    subst (MayStandAt c.args.tree.now c.args.node) (sym here) (record { children = may.children; few = may.few }) in
    subst (λ (p : RuleParts). MayStandAt c.args.tree.now c.args.node (parts_meant p)) (sym c.index-rows-rule.is) whole

pub returns-clause-count : goal.returns-clause-count
returns-clause-count c =
    let g = meant c.args.tree.now.checked in
    let rows = c.as_slice-rows.result.now in
    let are : map parts_meant rows ≡ all_parts g = ap (map parts_meant) c.as_slice-rows.ensures ∙
    c.requires.tables.parts in
    let here = (parts_at g rows c.args.rule c.index-rows-rule.result are c.requires.rule).1 in
    c.read_count.ensures.count
    ∙ ap (λ (p : Parts). reads_here c.args.tree.now c.args.node p c.args.number)
    (ap parts_meant c.index-rows-rule.is ∙ here)
