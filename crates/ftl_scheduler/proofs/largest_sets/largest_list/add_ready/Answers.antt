use Rattle.std.proofs.Common.{sym, ◌∙◌, ap, subst, slice_index_or, refl}
use Rattle.std.specs.FinSet as set
use Rattle.ftl_scheduler.specs.largest_sets.Rows.{Has}
use Rattle.ftl_scheduler.proofs.largest_sets.Leaving.{minus_parts}
use Rattle.ftl_scheduler.proofs.largest_sets.Marks.{adding_end, adding_put, adding_skip, adding_start, missing_after}
use Rattle.ftl_scheduler.proofs.largest_sets.Ordering.{may_come}
use Rattle.ftl_scheduler.proofs.largest_sets.largest_list.add_ready.Goals as goal

-- none was seen
pub loop-next-init : goal.loop-next-init
loop-next-init c =
    adding_start (may_come c.args.constraints.now.earlier c.args.all.now c.args.placed.now) (slice_index_or c.args.constraints.now.followers c.args.attr set.empty) c.args.ready.now
    c.empty-seen.result c.empty-seen.ensures.none

pub loop-next-smaller-then-is_ready : goal.loop-next-smaller-then-is_ready
loop-next-smaller-then-is_ready c =
    missing_after c.loop-next.seen c.put.new.self c.in-Some.next c.in-Some.ensures.least.within
    (minus_parts c.row.result.now c.loop-next.seen c.in-Some.next c.in-Some.ensures.least.is_in).1 c.put.ensures.added

-- the next one was ready
pub loop-next-preserved-then-is_ready : goal.loop-next-preserved-then-is_ready
loop-next-preserved-then-is_ready c =
    adding_put (may_come c.args.constraints.now.earlier c.args.all.now c.args.placed.now) (slice_index_or c.args.constraints.now.followers c.args.attr set.empty) c.args.ready.now
    c.loop-next.ready c.loop-next.seen c.put-then-is_ready.new.self c.put.new.self c.in-Some.next c.loop-next.invariant
    (subst (λ r. Has r c.in-Some.next) c.row.ensures.row (minus_parts c.row.result.now c.loop-next.seen c.in-Some.next c.in-Some.ensures.least.is_in).0)
    (sym c.is_ready.ensures.ready ∙ c.if-is_ready.true) c.put.ensures.added c.put-then-is_ready.ensures.added

pub loop-next-smaller : goal.loop-next-smaller
loop-next-smaller c =
    missing_after c.loop-next.seen c.put.new.self c.in-Some.next c.in-Some.ensures.least.within
    (minus_parts c.row.result.now c.loop-next.seen c.in-Some.next c.in-Some.ensures.least.is_in).1 c.put.ensures.added

-- it was not
pub loop-next-preserved : goal.loop-next-preserved
loop-next-preserved c =
    adding_skip (may_come c.args.constraints.now.earlier c.args.all.now c.args.placed.now) (slice_index_or c.args.constraints.now.followers c.args.attr set.empty) c.args.ready.now
    c.loop-next.ready c.loop-next.seen c.put.new.self c.in-Some.next c.loop-next.invariant
    (subst (λ r. Has r c.in-Some.next) c.row.ensures.row (minus_parts c.row.result.now c.loop-next.seen c.in-Some.next c.in-Some.ensures.least.is_in).0)
    (sym c.is_ready.ensures.ready ∙ c.if-is_ready.false) c.put.ensures.added (minus_parts c.row.result.now c.loop-next.seen c.in-Some.next c.in-Some.ensures.least.is_in).1

-- all were seen
pub returns : goal.returns
returns c = record {
  ready = adding_end (may_come c.args.constraints.now.earlier c.args.all.now c.args.placed.now) (slice_index_or c.args.constraints.now.followers c.args.attr set.empty) c.args.ready.now c.loop-next.ready
      c.loop-next.seen c.loop-next.invariant
      (ap (λ r. set.difference r c.loop-next.seen) (sym c.row.ensures.row) ∙ c.in_default.ensures.none.0 refl);
}
