use Rattle.std.proofs.Common.{◌≡◌, subst, sym, ap, ◌∙◌}
use Rattle.ftl_cells.specs.shared.State.{live}
use Rattle.ftl_cells.specs.declared.shared.place.HandPlace.TheVariants.{Idle}
use Rattle.ftl_replay.specs.declared.interleavings.event.Event.TheVariants.{Another}
use Rattle.ftl_replay.specs.interleavings.Events.{place_at}
use Rattle.ftl_replay.specs.interleavings.Replays.{IsMade}
use Rattle.ftl_replay.proofs.interleavings.Made.{makes_another}
use Rattle.ftl_replay.proofs.interleavings.make.another.Goals as goal

pub returns-clause-step : goal.returns-clause-step
returns-clause-step c = λ t m words. subst
    (λ ps. IsMade m (Another c.args.hand) words c.args.hands.now.items words ps) (sym c.in_ok-push.ensures.items)
    (makes_another m c.args.hand words c.args.hands.now.items
    (subst (λ ps. place_at ps c.args.hand ≡ live Idle) c.as_slice.ensures.value
    (c.in-Some-Idle.ensures.some ∙ ap live c.in-Some-Idle.field-0-is)))
