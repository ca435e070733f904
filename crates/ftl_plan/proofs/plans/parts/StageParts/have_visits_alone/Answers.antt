use Rattle.std.proofs.Common.{◌≡◌, ◌<◌, subst, sym, arith}
use mathlib.Core.Logic.{dite}
use native.Mathlib.Decide.{ℕ_discrete}
use Rattle.ftl_plan.specs.plans.VisitsAlone.{IsVisitsAlone}
use Rattle.ftl_plan.proofs.plans.parts.StageParts.have_visits_alone.Goals as goal

pub loop-pass-init : goal.loop-pass-init
loop-pass-init c m below = absurd (let z : ⊥ = omega (arith, below) in z)

pub loop-pass-preserved : goal.loop-pass-preserved
loop-pass-preserved c m below =
    let n = c.loop-pass.pass in
    dite (ℕ_discrete m n)
    (λ e. subst (IsVisitsAlone c.args.self.now.item_tables) (sym e)
    (c.has_visits_alone.ensures.alone c.if-not-has_visits_alone.false))
    (λ ne. c.loop-pass.invariant m (omega (arith, below, ne)))

pub returns : goal.returns
returns c =
    let past = c.loop-pass-test.false in
    record { alone = λ _ m below. c.loop-pass.invariant m (omega (arith, below, past)) }
