-- The visits of all classes in a pass, and for whom rules are.
use Rattle.std.specs.Prelude.{ℕ, List, map}
use Rattle.std.specs.List.{range_with_len}
use Rattle.ftl_model.specs.layout.AttributeGrammar.{AttributeGrammar, RuleName, for_child, for_self}
use Rattle.ftl_schedule.specs.declared.syntax.kind.PassKind.{PassKind}
use Rattle.ftl_visit.specs.visits.Visits.{visit_of}
use Rattle.ftl_visit.specs.declared.visits.visit_op.VisitOp.{VisitOp}
use Rattle.ftl_visit.specs.declared.passes.rule_target.RuleTarget.{RuleTarget}
use Rattle.ftl_visit.specs.declared.passes.rule_target.RuleTarget.TheVariants.{Own, Kids}

-- the visit of each class, by its number, in a pass of this kind with this list
abbrev pub visits_of : AttributeGrammar → PassKind → (attributes : List ℕ) → List (List VisitOp)
visits_of g kind attributes = map (visit_of g kind attributes) (range_with_len 0 g.class_count)

-- for whom a rule is: the node itself, or the kids in a child
abbrev pub target_of : RuleName → RuleTarget
target_of (for_self class a) = Own
target_of (for_child class c a) = Kids c
