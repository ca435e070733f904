use Rattle.std.proofs.Common.{◌+◌, sym, ◌∙◌, subst, refl}
use Rattle.ftl_scheduler.proofs.largest_sets.Marks.{IsMarked, marked_none, marked_put, marked_skip}
use Rattle.ftl_scheduler.proofs.largest_sets.Ordering.{may_come}
use Rattle.ftl_scheduler.proofs.largest_sets.largest_list.ready_at_first.Goals as goal
use Rattle.ftl_scheduler.proofs.largest_sets.largest_list.ready_at_first.Goals.{then-is_ready, else-is_ready}

pub loop-attr-init : goal.loop-attr-init
loop-attr-init c =
    marked_none (may_come c.args.constraints.now.earlier c.args.all.now c.args.placed.now) c.empty-ready.result
    c.empty-ready.ensures.none

-- the number is marked where the test holds
pub loop-attr-preserved : goal.loop-attr-preserved
loop-attr-preserved c =
    elim c.if-is_ready.branch [
      | then-is_ready w ↦
          subst (λ r. IsMarked (may_come c.args.constraints.now.earlier c.args.all.now c.args.placed.now) r (c.loop-attr.attr + 1)) (sym w.ready-is)
          (marked_put (may_come c.args.constraints.now.earlier c.args.all.now c.args.placed.now) c.loop-attr.ready w.put.new.self
          c.loop-attr.attr (c.loop-attr.attr + 1) c.loop-attr.invariant
          (sym c.is_ready.ensures.ready ∙ w.if-is_ready.true) w.put.ensures.added refl)
      | else-is_ready w ↦
          subst (λ r. IsMarked (may_come c.args.constraints.now.earlier c.args.all.now c.args.placed.now) r (c.loop-attr.attr + 1)) (sym w.ready-is)
          (marked_skip (may_come c.args.constraints.now.earlier c.args.all.now c.args.placed.now) c.loop-attr.ready c.loop-attr.attr
          (c.loop-attr.attr + 1) c.loop-attr.invariant (sym c.is_ready.ensures.ready ∙ w.if-is_ready.false) refl)
    ]
