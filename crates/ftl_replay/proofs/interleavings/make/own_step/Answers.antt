use Rattle.std.proofs.Common.{◌≡◌, subst, sym, set}
use Rattle.ftl_cells.specs.shared.State.{live}
use Rattle.ftl_replay.specs.declared.interleavings.place.ReplayPlace.TheVariants.{Live}
use Rattle.ftl_replay.specs.interleavings.Events.{place_at}
use Rattle.ftl_replay.specs.interleavings.Replays.{IsMade}
use Rattle.ftl_replay.proofs.interleavings.Made.{makes_own}
use Rattle.ftl_replay.proofs.interleavings.make.own_step.Goals as goal

pub returns-clause-step : goal.returns-clause-step
returns-clause-step g c = λ t. subst
    (λ h. IsMade (g.W.Meant.meaning c.args.work.now) c.args.event c.args.row.now.items c.args.hands.now.items
    c.next_place.new.row.items
    (set c.args.hands.now.items h (Live c.in-Some-next_place.next))) (sym c.hand-hand.ensures.hand)
    (makes_own (g.W.Meant.meaning c.args.work.now) c.args.event c.args.row.now.items c.args.hands.now.items
    c.next_place.new.row.items
    c.in-Some.place c.in-Some-next_place.next c.requires.own
    (subst (λ h. place_at c.args.hands.now.items h ≡ live c.in-Some.place) c.hand-hand.ensures.hand
    (subst (λ ps. place_at ps c.hand-hand.result ≡ live c.in-Some.place) c.as_slice.ensures.value
    c.in-Some.ensures.some))
    c.in-Some-next_place.ensures.step)
