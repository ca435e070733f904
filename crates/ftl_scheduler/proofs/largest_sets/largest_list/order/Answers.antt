use Rattle.std.proofs.Common.{sym, ◌∙◌, refl}
use Rattle.std.specs.FinSet as set
use Rattle.std.proofs.lemmas.Bool.{and_parts}
use Rattle.ftl_scheduler.specs.largest_sets.Turns.{is_ready}
use Rattle.ftl_scheduler.proofs.largest_sets.Leaving.{minus_parts}
use Rattle.ftl_scheduler.proofs.largest_sets.Marks.{missing_after}
use Rattle.ftl_scheduler.proofs.largest_sets.Ordering.{ordering_end, ordering_more}
use Rattle.ftl_scheduler.proofs.largest_sets.largest_list.order.Goals as goal

pub add_ready-requires-clause-within : goal.add_ready-requires-clause-within
add_ready-requires-clause-within c =
    c.requires.sized.known c.in-Some.attr
    (and_parts (set.contains c.args.all.now c.in-Some.attr)
    (is_ready c.args.constraints.now.earlier c.loop-attr.placed c.in-Some.attr)
    (sym (c.loop-attr.invariant.may c.in-Some.attr) ∙ (minus_parts c.loop-attr.ready c.loop-attr.placed c.in-Some.attr c.in-Some.ensures.least.is_in).0)).0

pub loop-attr-smaller : goal.loop-attr-smaller
loop-attr-smaller c =
    missing_after c.loop-attr.placed c.put.new.self c.in-Some.attr c.in-Some.ensures.least.within (minus_parts c.loop-attr.ready c.loop-attr.placed c.in-Some.attr c.in-Some.ensures.least.is_in).1
    c.put.ensures.added

pub loop-attr-preserved : goal.loop-attr-preserved
loop-attr-preserved c =
    ordering_more c.args.constraints.now.earlier c.args.constraints.now.followers c.args.all.now c.requires.whole.turned c.args.placed.now
    c.loop-attr.placed c.loop-attr.turns.items c.loop-attr.ready c.loop-attr.invariant c.in-Some.attr
    c.push.new.self.items c.put.new.self c.add_ready.new.ready c.in-Some.ensures.least c.in_ok-push.ensures.items
    c.put.ensures.added c.add_ready.ensures.ready

pub returns-clause-turns : goal.returns-clause-turns
returns-clause-turns c =
    ordering_end c.args.constraints.now.earlier c.args.constraints.now.followers c.args.all.now c.requires.whole.turned c.args.placed.now
    c.loop-attr.placed c.loop-attr.turns.items c.loop-attr.ready c.loop-attr.invariant (c.in_default.ensures.none.0 refl)
