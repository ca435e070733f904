use Rattle.std.proofs.Common.{sym, subst}
use Rattle.ftl_answer.specs.answers.Answers.{explained_schedule}
use Rattle.ftl_deps.specs.reads.Meant.{meant}
use Rattle.ftl_nest_check.specs.check.NestAccepted.{MayBeVerified}
use Rattle.ftl_nest_check.specs.declared.stages.types.NestingSchedule.{NestingSchedule}
use Rattle.ftl_nest_check.specs.stages.Nested.{nests_of}
use Rattle.ftl_answer.specs.reading.requests.Explained.{HasFaultPair}
use Rattle.ftl_answer.specs.reading.requests.RulesAnswers.{EndsIn}
use Rattle.ftl_answer.proofs.reading.requests.explained.pair_explained.Goals as goal

-- the schedule with the places is the same
pub placed_explained-requires : goal.placed_explained-requires
placed_explained-requires c =
    let k = c.args.checked.now in
    let same = sym c.in-Ok.ensures.schedule in
    record {
      table = c.requires.table;
      may = subst (λ (s : NestingSchedule). MayBeVerified (meant k) (nests_of s)) same c.requires.may;
      pair = subst (HasFaultPair k) same c.requires.pair;
    }

pub returns-in-Ok : goal.returns-in-Ok
returns-in-Ok c = record {
  outcome =
      subst (λ (s : NestingSchedule). EndsIn (explained_schedule c.args.checked.now s) c.placed_explained.result)
      c.in-Ok.ensures.schedule c.placed_explained.ensures.outcome;
}
