use Rattle.std.proofs.Common.{ap}
use Rattle.ftl_edge.specs.Counts.{source_counts}
use Rattle.ftl_answer.specs.headline.Headline.{call_of, texts}
use Rattle.ftl_run.proofs.calls.Matching.{causes, no_read_fault, matches}
use Rattle.ftl_run.proofs.calls.layout.layout_top.Goals as goal

pub returns-clause-answer : goal.returns-clause-answer
returns-clause-answer g c =
    let asked = c.requested-requested in
    let done = c.answered_by_workers-decided in
    matches (call_of g.S.Source.remaining g.S.Source.calls g.S.Source.taken g.S.Source.fault_count g.K.Sink.written
    g.K.Sink.fault_count (texts c.args.words.now) c.written.result.0 c.args.source.now asked.new.source c.args.sink.now
    c.written.new.sink) c.answers_have_statuses.ensures.status c.one_answer.ensures.one asked.result done.result
    asked.ensures.asked asked.ensures.end asked.ensures.fault done.ensures.answered c.written.ensures.written

pub returns-clause-faults : goal.returns-clause-faults
returns-clause-faults g c =
    let asked = c.requested-requested in
    let done = c.answered_by_workers-decided in
    causes (call_of g.S.Source.remaining g.S.Source.calls g.S.Source.taken g.S.Source.fault_count g.K.Sink.written
    g.K.Sink.fault_count (texts c.args.words.now) c.written.result.0 c.args.source.now asked.new.source c.args.sink.now
    c.written.new.sink) c.answers_have_statuses.ensures.status c.one_answer.ensures.one asked.result done.result
    asked.ensures.asked asked.ensures.fault done.ensures.answered c.written.ensures.written

pub returns-clause-input : goal.returns-clause-input
returns-clause-input g c =
    let asked = c.requested-requested in
    let done = c.answered_by_workers-decided in
    record {
      untouched =
          λ unread.
          let same = asked.ensures.untouched unread in (
            ap (λ s. g.S.Source.remaining s) same,
            ap (λ s. source_counts (g.S.Source.calls s) (g.S.Source.taken s) (g.S.Source.fault_count s)) same,
            no_read_fault (call_of g.S.Source.remaining g.S.Source.calls g.S.Source.taken g.S.Source.fault_count
                g.K.Sink.written g.K.Sink.fault_count (texts c.args.words.now) c.written.result.0 c.args.source.now
                asked.new.source c.args.sink.now c.written.new.sink) c.answers_have_statuses.ensures.status
                c.one_answer.ensures.one asked.result done.result asked.ensures.asked (asked.ensures.no_read unread)
                done.ensures.answered c.written.ensures.written,
          );
      at_most = asked.ensures.at_most;
      turns = asked.ensures.turns;
    }
