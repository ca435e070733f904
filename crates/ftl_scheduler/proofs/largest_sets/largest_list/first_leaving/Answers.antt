use Rattle.std.proofs.Common.{◌+◌, sym, ◌∙◌, subst, refl}
use Rattle.ftl_scheduler.specs.largest_sets.Staying.{is_first}
use Rattle.ftl_scheduler.proofs.largest_sets.Marks.{IsMarked, marked_none, marked_put, marked_skip}
use Rattle.ftl_scheduler.proofs.largest_sets.largest_list.first_leaving.Goals as goal
use Rattle.ftl_scheduler.proofs.largest_sets.largest_list.first_leaving.Goals.{then-leaves_first, else-leaves_first}

pub loop-attr-init : goal.loop-attr-init
loop-attr-init c =
    marked_none (is_first c.args.constraints.now.late c.args.all.now c.args.done.now c.args.placed.now) c.empty-first.result
    c.empty-first.ensures.none

-- the number is marked where the test holds
pub loop-attr-preserved : goal.loop-attr-preserved
loop-attr-preserved c =
    elim c.if-leaves_first.branch [
      | then-leaves_first w ↦
          subst (λ r. IsMarked (is_first c.args.constraints.now.late c.args.all.now c.args.done.now c.args.placed.now) r (c.loop-attr.attr + 1)) (sym w.first-is)
          (marked_put (is_first c.args.constraints.now.late c.args.all.now c.args.done.now c.args.placed.now) c.loop-attr.first w.put.new.self
          c.loop-attr.attr (c.loop-attr.attr + 1) c.loop-attr.invariant
          (sym c.leaves_first.ensures.first ∙ w.if-leaves_first.true) w.put.ensures.added refl)
      | else-leaves_first w ↦
          subst (λ r. IsMarked (is_first c.args.constraints.now.late c.args.all.now c.args.done.now c.args.placed.now) r (c.loop-attr.attr + 1)) (sym w.first-is)
          (marked_skip (is_first c.args.constraints.now.late c.args.all.now c.args.done.now c.args.placed.now) c.loop-attr.first c.loop-attr.attr
          (c.loop-attr.attr + 1) c.loop-attr.invariant (sym c.leaves_first.ensures.first ∙ w.if-leaves_first.false) refl)
    ]
