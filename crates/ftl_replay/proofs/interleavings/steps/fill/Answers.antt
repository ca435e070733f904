use Rattle.std.proofs.Common.{◌≡◌, ◌+◌, subst, sym, ap, ◌∙◌, arith, get_or, set}
use Rattle.ftl_cells.specs.shared.Work.{target_of, read_of, solved_word}
use Rattle.ftl_cells.specs.shared.State.{live, cell_word}
use Rattle.ftl_cells.specs.shared.Kept.{IsInRange}
use Rattle.ftl_cells.specs.declared.shared.place.HandPlace.TheVariants.{Working}
use Rattle.ftl_replay.specs.declared.interleavings.event.Event.TheVariants.{Fill}
use Rattle.ftl_replay.specs.interleavings.Replays.{IsStageWith, StepsTo}
use Rattle.ftl_model.specs.layout.Values.{word_of_value}
use Rattle.ftl_replay.proofs.interleavings.Moves.{in_range, reads_hold, fills_target}
use Rattle.ftl_replay.proofs.interleavings.steps.fill.Goals as goal

pub result_of-val-requires-clause-read : goal.result_of-val-requires-clause-read
result_of-val-requires-clause-read g c =
    let range : IsInRange (g.W.Meant.meaning c.args.work.now) (live (Working c.in-Working.item c.in-Working.step
    c.in-Working.reads)) =
    subst (λ p. IsInRange (g.W.Meant.meaning c.args.work.now) (live p)) c.in-Working.is
    (in_range (g.W.Meant.meaning c.args.work.now) c.args.row.now.items c.args.place c.requires.stage) in
    λ l o k b. subst
    (λ ws. get_or ws (cell_word (read_of (g.W.Meant.meaning c.args.work.now) c.in-Working.item c.in-Working.step k)) 0
    ≡ solved_word (g.W.Meant.meaning c.args.work.now) (read_of (g.W.Meant.meaning c.args.work.now) c.in-Working.item
    c.in-Working.step k)) (sym c.as_slice.ensures.value)
    (reads_hold (g.W.Meant.meaning c.args.work.now) c.args.row.now.items c.in-Working.item c.in-Working.step
    c.in-Working.reads
    (subst (λ p. IsStageWith (g.W.Meant.meaning c.args.work.now) c.args.row.now.items p) c.in-Working.is
    c.requires.stage)
    (omega arith) k b)

pub returns-clause-step : goal.returns-clause-step
returns-clause-step g c =
    let range : IsInRange (g.W.Meant.meaning c.args.work.now) (live (Working c.in-Working.item c.in-Working.step
    c.in-Working.reads)) =
    subst (λ p. IsInRange (g.W.Meant.meaning c.args.work.now) (live p)) c.in-Working.is
    (in_range (g.W.Meant.meaning c.args.work.now) c.args.row.now.items c.args.place c.requires.stage) in
    λ hand. subst
    (λ p. StepsTo (g.W.Meant.meaning c.args.work.now) (Fill hand) c.args.row.now.items p
    (set c.args.row.now.items (1 + c.target.result) c.word_of.result) (Working c.in-Working.item
    (c.in-Working.step + 1) 0))
    (sym c.in-Working.is)
    (subst
    (λ ws. StepsTo (g.W.Meant.meaning c.args.work.now) (Fill hand) c.args.row.now.items
    (Working c.in-Working.item c.in-Working.step c.in-Working.reads) ws
    (Working c.in-Working.item (c.in-Working.step + 1) 0))
    (ap (λ a. set c.args.row.now.items (1 + a) (solved_word (g.W.Meant.meaning c.args.work.now) (target_of
    (g.W.Meant.meaning c.args.work.now) c.in-Working.item c.in-Working.step)))
    (sym c.target.ensures.target)
    ∙ ap (λ x. set c.args.row.now.items (1 + c.target.result) x)
    (sym (c.word_of.ensures.word ∙ ap word_of_value c.result_of-val.ensures.value)))
    (fills_target (g.W.Meant.meaning c.args.work.now) c.args.row.now.items hand c.in-Working.item c.in-Working.step
    c.in-Working.reads (omega arith) (omega arith)))
