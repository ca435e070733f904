use Rattle.std.proofs.Common.{◌+◌, arith, not, ap, sym, ◌∙◌, subst, refl}
use Rattle.ftl_model.specs.layout.AttributeGrammar.{is_input}
use Rattle.ftl_deps.specs.reads.Meant.{meant}
use Rattle.ftl_scheduler.proofs.largest_sets.Marks.{IsMarked, marked_none, marked_put, marked_skip}
use Rattle.ftl_scheduler.proofs.finding.Targets.{marked_computed}
use Rattle.ftl_scheduler.proofs.finding.computed.computed_row.Goals as goal
use Rattle.ftl_scheduler.proofs.finding.computed.computed_row.Goals.{then-not-is_input, else-not-is_input}

pub loop-attr-init : goal.loop-attr-init
loop-attr-init c =
    marked_none (λ a. not (is_input ((meant c.args.checked.now).sort a))) c.empty-row.result c.empty-row.ensures.none

-- the number is marked where it is no input
pub loop-attr-preserved : goal.loop-attr-preserved
loop-attr-preserved c =
    elim c.if-not-is_input.branch [
      | then-not-is_input w ↦
          subst (λ r. IsMarked (λ a. not (is_input ((meant c.args.checked.now).sort a))) r (c.loop-attr.attr + 1)) (sym w.row-is)
          (marked_put (λ a. not (is_input ((meant c.args.checked.now).sort a))) c.loop-attr.row w.put.new.self
          c.loop-attr.attr (c.loop-attr.attr + 1) c.loop-attr.invariant
          (ap not (sym c.is_input.ensures.input ∙ w.if-not-is_input.true)) w.put.ensures.added refl)
      | else-not-is_input w ↦
          subst (λ r. IsMarked (λ a. not (is_input ((meant c.args.checked.now).sort a))) r (c.loop-attr.attr + 1)) (sym w.row-is)
          (marked_skip (λ a. not (is_input ((meant c.args.checked.now).sort a))) c.loop-attr.row c.loop-attr.attr
          (c.loop-attr.attr + 1) c.loop-attr.invariant (ap not (sym c.is_input.ensures.input ∙ w.if-not-is_input.false)) refl)
    ]

pub returns : goal.returns
returns c = record {
  computed =
      let low = c.loop-attr-test.false in
      let high = c.loop-attr.auto.attr-end in
      let count = c.attribute_count-attr-end.ensures.count in
      marked_computed (meant c.args.checked.now) c.loop-attr.row
      (subst (IsMarked (λ a. not (is_input ((meant c.args.checked.now).sort a))) c.loop-attr.row)
      (omega (arith, low, high, count)) c.loop-attr.invariant);
}
