use Rattle.std.proofs.Common.{ℕ, ◌++◌, Some, List, ap, sym, ◌∙◌}
use Rattle.std.specs.Option.{option_map, option_to_list}
use Rattle.ftl_deps.specs.reads.Meant.{meant}
use Rattle.ftl_visit.specs.visits.Visits.{rule_in}
use Rattle.ftl_visit.specs.declared.visits.visit_op.VisitOp.{VisitOp}
use Rattle.ftl_visit.specs.declared.visits.visit_op.VisitOp.TheVariants.{Rule}
use Rattle.ftl_visit.proofs.visits.Children.{child_more}
use Rattle.ftl_visit.proofs.visits.blocks.add_kid_rules.Goals as goal

pub loop-child-preserved : goal.loop-child-preserved
loop-child-preserved c =
    let n = c.loop-child.child in
    let f : ℕ → List VisitOp = λ d. rule_in (meant c.args.index.now) c.args.class (Some d) c.args.attr in
    c.in_ok-add_rule.ensures.added
    ∙ ap (λ o. c.loop-child.ops ++ option_to_list (option_map Rule o)) c.kid.ensures.number
    ∙ ap (λ ops. ops ++ f n) c.loop-child.invariant
    ∙ sym (child_more f c.args.ops.now n)
