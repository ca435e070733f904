use Rattle.ftl_answer.proofs.reading.requests.Explaining.{fault_pair, missing_ends, twice_ends}
use Rattle.ftl_answer.proofs.reading.requests.explained.fault_explained.Goals as goal

pub explained_again-requires-clause-pair : goal.explained_again-requires-clause-pair
explained_again-requires-clause-pair c =
    fault_pair c.args.checked.now c.args.scanned.now c.args.fault _ _ c.in-Unordered.is c.requires.spelled

pub returns-in-Twice : goal.returns-in-Twice
returns-in-Twice c = record {
  outcome =
      twice_ends c.args.checked.now c.args.scanned.now c.args.fault c.verify_refused.result _ c.in-Twice.is
      c.requires.spelled c.verify_refused.ensures.ends;
}

pub returns-in-Missing : goal.returns-in-Missing
returns-in-Missing c = record {
  outcome =
      missing_ends c.args.checked.now c.args.scanned.now c.args.fault c.verify_refused-in-Missing.result _ c.in-Missing.is
      c.requires.spelled c.verify_refused-in-Missing.ensures.ends;
}
