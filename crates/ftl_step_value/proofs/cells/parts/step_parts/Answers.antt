-- The rule of this number stands at its place.
use Rattle.std.proofs.Common.{◌≡◌, ap, ◌∙◌, subst, sym, map}
use Rattle.ftl_deps.specs.reads.Meant.{meant}
use Rattle.ftl_model.specs.layout.Path.{class_at, node_at}
use Rattle.ftl_deps.specs.parts.RuleParts.{all_parts, parts_meant}
use Rattle.ftl_visit.specs.step_reads.StepReads.{MayStandAt}
use Rattle.ftl_step_value.proofs.limits.reads.RuleReads.{parts_at, rule_may_stand}
use Rattle.ftl_step_value.proofs.cells.parts.step_parts.Goals as goal

pub returns-clause-parts : goal.returns-clause-parts
returns-clause-parts c =
    let g = meant c.args.tree.now.checked in
    let rows = c.as_slice-rows.result.now in
    let are : map parts_meant rows ≡ all_parts g = ap (map parts_meant) c.as_slice-rows.ensures ∙
    c.requires.tables.parts in
    ap parts_meant c.index-rows-step.is
    ∙ (parts_at g rows c.args.step.rule c.index-rows-step.result are c.requires.step.rule).1

pub returns-clause-may : goal.returns-clause-may
returns-clause-may c =
    let t = c.args.tree.now in
    let g = meant t.checked in
    let x = c.args.step in
    let rows = c.as_slice-rows.result.now in
    let are : map parts_meant rows ≡ all_parts g = ap (map parts_meant) c.as_slice-rows.ensures ∙
    c.requires.tables.parts in
    let here = (parts_at g rows x.rule c.index-rows-step.result are c.requires.step.rule).1 in
    let may = rule_may_stand g c.requires.sound (class_at t.tree (node_at t.tree x.node)) x.rule c.requires.step.rule
    c.requires.step.class in
    subst (MayStandAt t x.node) (sym (ap parts_meant c.index-rows-step.is ∙ here))
    (record { children = may.children; few = may.few })
