use Rattle.std.proofs.Common.{◌<◌, sym, ◌∙◌, ap, subst, refl}
use Rattle.std.specs.FinSet as set
use Rattle.ftl_scheduler.proofs.largest_sets.Leaving.{leaving_end, leaving_more, leaving_start, minus_parts}
use Rattle.ftl_scheduler.proofs.largest_sets.Marks.{missing_after}
use Rattle.ftl_scheduler.proofs.largest_sets.Leaving.{IsLeaving}
use Rattle.ftl_scheduler.proofs.largest_sets.largest_list.taken_away.Goals as goal

pub row-requires : goal.row-requires
row-requires c = record {
  from =
      subst (λ m. c.in-Some.attr < m) (sym c.requires.sized.users)
      (c.requires.sized.known c.in-Some.attr
      (c.loop-attr.invariant.within c.in-Some.attr (minus_parts c.loop-attr.leaving c.loop-attr.taken c.in-Some.attr c.in-Some.ensures.least.is_in).0));
}

pub loop-attr-init : goal.loop-attr-init
loop-attr-init c =
    leaving_start c.args.constraints.now.users c.args.all.now c.args.done.now c.args.first c.copy_of-taken.result
    c.requires.first (λ b. ap (λ r. set.contains r b) c.copy_of-taken.ensures.same)

pub loop-attr-smaller : goal.loop-attr-smaller
loop-attr-smaller c =
    missing_after c.loop-attr.taken c.put.new.self c.in-Some.attr c.in-Some.ensures.least.within (minus_parts c.loop-attr.leaving c.loop-attr.taken c.in-Some.attr c.in-Some.ensures.least.is_in).1
    c.put.ensures.added

pub loop-attr-preserved : goal.loop-attr-preserved
loop-attr-preserved c =
    subst (λ t. IsLeaving c.args.constraints.now.users c.args.all.now c.args.done.now c.args.first c.union_into.new.self t)
    (sym c.put.ensures.added)
    (leaving_more c.args.constraints.now.users c.args.all.now c.args.done.now c.args.first c.loop-attr.leaving c.loop-attr.taken
    c.union_into.new.self c.in-Some.attr c.loop-attr.invariant c.requires.whole.readers (minus_parts c.loop-attr.leaving c.loop-attr.taken c.in-Some.attr c.in-Some.ensures.least.is_in).0 (minus_parts c.loop-attr.leaving c.loop-attr.taken c.in-Some.attr c.in-Some.ensures.least.is_in).1
    (c.union_into.ensures.joined ∙ ap (set.union c.loop-attr.leaving) c.row.ensures.row))

pub returns : goal.returns
returns c = record {
  closure =
      leaving_end c.args.constraints.now.users c.args.all.now c.args.done.now c.args.first c.loop-attr.leaving c.loop-attr.taken
      c.loop-attr.invariant (c.in_default.ensures.none.0 refl);
}
