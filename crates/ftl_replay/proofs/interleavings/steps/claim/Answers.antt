use Rattle.std.proofs.Common.{◌≡◌, ◌≢◌, subst, sym, arith, get_or, set}
use Rattle.ftl_cells.specs.declared.shared.place.HandPlace.TheVariants.{Idle, Looked, Working}
use Rattle.ftl_replay.specs.declared.interleavings.event.Event.TheVariants.{Claim}
use Rattle.ftl_replay.specs.interleavings.Replays.{StepsTo}
use Rattle.ftl_cells.specs.shared.State.{live}
use Rattle.ftl_cells.specs.shared.Kept.{IsInRange}
use Rattle.ftl_replay.proofs.interleavings.Moves.{in_range, found, claims_free, claims_taken}
use Rattle.ftl_replay.proofs.interleavings.steps.claim.Goals as goal

pub returns-then-index-ne0-clause-step : goal.returns-then-index-ne0-clause-step
returns-then-index-ne0-clause-step g c =
    let range : IsInRange (g.W.Meant.meaning c.args.work.now) (live (Looked c.in-Looked.item)) =
    subst (λ p. IsInRange (g.W.Meant.meaning c.args.work.now) (live p)) c.in-Looked.is
    (in_range (g.W.Meant.meaning c.args.work.now) c.args.row.now.items c.args.place c.requires.stage) in
    let here : get_or c.args.row.now.items c.state_at-at.result 0 ≡ c.index.result.now =
    found (g.W.Meant.meaning c.args.work.now) c.args.row.now.items c.args.place c.requires.stage
    c.state_at-at.result c.index.result.now (omega arith)
    c.index.ensures in
    λ hand. subst
    (λ p. StepsTo (g.W.Meant.meaning c.args.work.now) (Claim hand) c.args.row.now.items p c.args.row.now.items Idle)
    (sym c.in-Looked.is)
    (claims_taken (g.W.Meant.meaning c.args.work.now) c.args.row.now.items hand c.in-Looked.item
    (subst (λ a. get_or c.args.row.now.items a 0 ≢ 0) c.state_at-at.ensures.word (λ z. omega arith)))

pub returns-clause-step : goal.returns-clause-step
returns-clause-step g c =
    let range : IsInRange (g.W.Meant.meaning c.args.work.now) (live (Looked c.in-Looked.item)) =
    subst (λ p. IsInRange (g.W.Meant.meaning c.args.work.now) (live p)) c.in-Looked.is
    (in_range (g.W.Meant.meaning c.args.work.now) c.args.row.now.items c.args.place c.requires.stage) in
    let here : get_or c.args.row.now.items c.state_at-at.result 0 ≡ c.index.result.now =
    found (g.W.Meant.meaning c.args.work.now) c.args.row.now.items c.args.place c.requires.stage
    c.state_at-at.result c.index.result.now (omega arith)
    c.index.ensures in
    λ hand. subst
    (λ p. StepsTo (g.W.Meant.meaning c.args.work.now) (Claim hand) c.args.row.now.items p
    (set c.args.row.now.items c.state_at-at.result 1)
    (Working c.in-Looked.item 0 0)) (sym c.in-Looked.is)
    (subst
    (λ a. StepsTo (g.W.Meant.meaning c.args.work.now) (Claim hand) c.args.row.now.items (Looked c.in-Looked.item)
    (set c.args.row.now.items a 1)
    (Working c.in-Looked.item 0 0)) (sym c.state_at-at.ensures.word)
    (claims_free (g.W.Meant.meaning c.args.work.now) c.args.row.now.items hand c.in-Looked.item
    (subst (λ a. get_or c.args.row.now.items a 0 ≡ 0) c.state_at-at.ensures.word (omega arith))))
