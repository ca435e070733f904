use Rattle.std.proofs.Common.{◌<◌, ap, ◌∙◌, arith}
use Rattle.ftl_cells.specs.shared.Work.{next_total}
use Rattle.ftl_cells.specs.shared.State.{count_word}
use Rattle.ftl_replay.proofs.interleavings.Moves.{counter_some, end_some, sends_less, finishes_less, sent_bound}
use Rattle.ftl_replay.proofs.interleavings.steps.deliver.Goals as goal

pub take_one-requires-clause-some : goal.take_one-requires-clause-some
take_one-requires-clause-some g c = end_some (g.W.Meant.meaning c.args.work.now) c.args.row.now.items c.args.place
    c.requires.stage c.in-Some.item c.in-Some.sent c.in-Some.ensures.item

pub returns-then-sent-next_count-clause-step : goal.returns-then-sent-next_count-clause-step
returns-then-sent-next_count-clause-step g c = λ hand. finishes_less (g.W.Meant.meaning c.args.work.now)
    c.args.row.now.items c.args.place c.requires.stage hand c.take_one.new.row.items
    c.in-Some.item c.in-Some.sent c.in-Some.ensures.item (omega arith) c.take_one.ensures.taken

pub take_one-requires-2-clause-some : goal.take_one-requires-2-clause-some
take_one-requires-2-clause-some g c =
    let below : c.in-Some.sent < next_total (g.W.Meant.meaning c.args.work.now) c.in-Some.item =
    sent_bound (g.W.Meant.meaning c.args.work.now) c.args.row.now.items c.args.place c.requires.stage c.in-Some.item
    c.in-Some.sent c.in-Some.ensures.item (λ e. omega arith) in
    counter_some (g.W.Meant.meaning c.args.work.now) c.args.row.now.items c.args.place c.requires.stage
    c.count_at.result c.in-Some.item c.in-Some.sent c.in-Some.ensures.item below
    (c.count_at.ensures.word ∙ ap (count_word (g.W.Meant.meaning c.args.work.now)) c.next-next.ensures.next)

pub returns-clause-step : goal.returns-clause-step
returns-clause-step g c =
    let below : c.in-Some.sent < next_total (g.W.Meant.meaning c.args.work.now) c.in-Some.item =
    sent_bound (g.W.Meant.meaning c.args.work.now) c.args.row.now.items c.args.place c.requires.stage c.in-Some.item
    c.in-Some.sent c.in-Some.ensures.item (λ e. omega arith) in
    λ hand. sends_less (g.W.Meant.meaning c.args.work.now) c.args.row.now.items c.args.place c.requires.stage hand
    c.take_one-2.new.row.items c.count_at.result c.in-Some.item c.in-Some.sent c.in-Some.ensures.item below
    (c.count_at.ensures.word ∙ ap (count_word (g.W.Meant.meaning c.args.work.now)) c.next-next.ensures.next)
    c.take_one-2.ensures.taken
