use Rattle.ftl_answer.specs.answers.Answers.{explained_schedule}
use Rattle.ftl_answer.specs.answers.Texts.{spelled_schedule}
use Rattle.ftl_answer.proofs.reading.requests.Endings.{end_second}
use Rattle.ftl_answer.proofs.reading.requests.Explaining.{pair_again, unread_ends}
use Rattle.ftl_answer.proofs.reading.requests.explained.explained_again.Goals as goal

pub pair_explained-requires-clause-may : goal.pair_explained-requires-clause-may
pair_explained-requires-clause-may c =
    let read = c.in-Ok.ensures in record { computed = read.computed; limits = read.limits; kept = read.kept }

pub pair_explained-requires-clause-pair : goal.pair_explained-requires-clause-pair
pair_explained-requires-clause-pair c =
    pair_again c.args.checked.now c.args.scanned.now c.in-Ok.schedule c.requires.pair c.in-Ok.ensures.answer

pub returns-in-Ok : goal.returns-in-Ok
returns-in-Ok c = record {
  outcome =
      end_second (spelled_schedule c.args.checked.now c.args.scanned.now) (explained_schedule c.args.checked.now)
      c.in-Ok.schedule c.pair_explained.result c.in-Ok.ensures.answer c.pair_explained.ensures.outcome;
}

pub returns-in-Err : goal.returns-in-Err
returns-in-Err c = record {
  outcome =
      unread_ends c.args.checked.now c.args.scanned.now c.in-Err.fault c.schedule_refused.result c.in-Err.ensures.answer
      c.schedule_refused.ensures.ends;
}
