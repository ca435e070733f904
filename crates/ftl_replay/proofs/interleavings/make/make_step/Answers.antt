use Rattle.std.proofs.Common.{◌≡◌, subst, false}
use Rattle.ftl_replay.specs.interleavings.Events.{IsStepAt}
use Rattle.ftl_replay.proofs.interleavings.Made.{ok_map}
use Rattle.ftl_replay.proofs.interleavings.make.make_step.Goals as goal

pub returns-in-Another-clause-none : goal.returns-in-Another-clause-none
returns-in-Another-clause-none g c = ok_map c.another.result _
    (λ b. b ≡ false → IsStepAt (g.W.Meant.meaning c.args.work.now) c.args.event c.args.hands.now.items → ⊥)
    (λ b h f s. h f (g.W.Meant.meaning c.args.work.now)
    (subst (λ e. IsStepAt (g.W.Meant.meaning c.args.work.now) e c.args.hands.now.items) c.in-Another.is s))
    c.another.ensures.none

pub returns-in-GiveUp-clause-none : goal.returns-in-GiveUp-clause-none
returns-in-GiveUp-clause-none g c = λ f s. c.give_up.ensures.none f (g.W.Meant.meaning c.args.work.now)
    (subst (λ e. IsStepAt (g.W.Meant.meaning c.args.work.now) e c.args.hands.now.items) c.in-GiveUp.is s)
