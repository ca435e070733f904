use Rattle.ftl_answer.proofs.reading.requests.Explaining.{unread_ends}
use Rattle.ftl_answer.proofs.reading.requests.explained.explained_of_tokens.Goals as goal

pub verified_or_explained-requires-clause-may : goal.verified_or_explained-requires-clause-may
verified_or_explained-requires-clause-may c =
    let read = c.in-Ok.ensures in record { computed = read.computed; limits = read.limits; kept = read.kept }

pub returns-in-Err : goal.returns-in-Err
returns-in-Err c = record {
  outcome =
      unread_ends c.args.checked.now c.args.scanned.now c.in-Err.fault c.schedule_refused.result c.in-Err.ensures.answer
      c.schedule_refused.ensures.ends;
}
