use Rattle.std.proofs.Common.{◌+◌, ◌&&◌, not, ap, sym, ◌∙◌, subst, arith}
use Rattle.std.specs.FinSet as set
use Rattle.ftl_scheduler.specs.outcomes.Outcomes.{Passes}
use Rattle.ftl_scheduler.proofs.outcomes.Left.{passes_push, passes_skip}
use Rattle.ftl_scheduler.proofs.outcomes.outcome.left_of.Goals as goal
use Rattle.ftl_scheduler.proofs.outcomes.outcome.left_of.Goals.{then-is_left+in_ok-push, else-is_left}

-- the number is left where the test holds
pub loop-attr-preserved : goal.loop-attr-preserved
loop-attr-preserved c =
    elim c.if-is_left.branch [
      | then-is_left+in_ok-push w ↦
          passes_push (λ a. set.contains c.args.all.now a && not (set.contains c.args.taken.now a)) c.loop-attr.left.items
          c.if-is_left.left.items c.loop-attr.attr c.loop-attr.invariant (sym c.is_left.ensures.left ∙ w.if-is_left.true)
          (ap (λ v. v.items) w.left-is ∙ w.in_ok-push.ensures.items)
      | else-is_left w ↦
          subst (λ xs. Passes (λ a. set.contains c.args.all.now a && not (set.contains c.args.taken.now a))
          (c.loop-attr.attr + 1) xs) (sym (ap (λ v. v.items) w.left-is))
          (passes_skip (λ a. set.contains c.args.all.now a && not (set.contains c.args.taken.now a)) c.loop-attr.left.items
          c.loop-attr.attr c.loop-attr.invariant (sym c.is_left.ensures.left ∙ w.if-is_left.false))
    ]

pub returns : goal.returns
returns c = record {
  left =
      let low = c.loop-attr-test.false in
      let high = c.loop-attr.auto.attr-end in
      subst (Passes (λ a. set.contains c.args.all.now a && not (set.contains c.args.taken.now a)) c.args.size)
      (sym c.from_vec.ensures)
      (subst (λ n. Passes (λ a. set.contains c.args.all.now a && not (set.contains c.args.taken.now a)) n
      c.loop-attr.left.items) (omega (arith, low, high)) c.loop-attr.invariant);
}
