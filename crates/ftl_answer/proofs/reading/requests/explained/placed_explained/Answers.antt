use Rattle.ftl_answer.proofs.reading.requests.Explaining.{pair_ends}
use Rattle.ftl_answer.proofs.reading.requests.explained.placed_explained.Goals as goal

pub returns : goal.returns
returns c = record {
  outcome =
      pair_ends c.args.checked.now c.args.placed.now c.in_ok-explanation.field-0.items c.requires.pair
      c.in_ok-explanation.ensures.text;
}
