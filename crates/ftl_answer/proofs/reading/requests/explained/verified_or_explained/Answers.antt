use Rattle.ftl_answer.proofs.reading.requests.Explaining.{accepted_schedule, spells_fault}
use Rattle.ftl_answer.proofs.reading.requests.explained.verified_or_explained.Goals as goal

pub returns-in-Ok : goal.returns-in-Ok
returns-in-Ok c = record {
  outcome =
      accepted_schedule c.args.checked.now c.args.scanned.now c.args.schedule c.in-Ok.field-0.schedule
      c.in_ok-accepted-in-Ok.field-0 c.requires.spelled c.in-Ok.ensures.exact c.in_ok-accepted-in-Ok.ensures.answer;
}

pub fault_explained-requires-clause-spelled : goal.fault_explained-requires-clause-spelled
fault_explained-requires-clause-spelled c =
    spells_fault c.args.checked.now c.args.scanned.now c.args.schedule c.in-Err.fault c.requires.spelled
    c.in-Err.ensures.exact
