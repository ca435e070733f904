use Rattle.std.proofs.Common.{sym, ◌∙◌, rules}
use Rattle.ftl_tokens.proofs.scanner.RunLemmas.{runs_through_more, runs_through_stop, runs_through_end}
use Rattle.ftl_tokens.proofs.scanner.run.char_run_length.Goals as goal

-- the run stops before this character
pub returns-then-not-char_goes_on : goal.returns-then-not-char_goes_on
returns-then-not-char_goes_on c = record {
  length =
      let step = c.in-Some.ensures.steps in
      step.0 ∙ runs_through_stop c.loop-place.invariant.runs _ _ step.1 (sym c.char_goes_on.ensures.goes ∙ search rules);
}

pub loop-place-preserved : goal.loop-place-preserved
loop-place-preserved c =
    let step = c.in-Some.ensures.steps in
    record {
      can = search rules;
      finite = tt;
      runs = runs_through_more c.loop-place.invariant.runs _ _ _ step.1 (sym c.char_goes_on.ensures.goes ∙ search rules) step.2;
    }

-- no character is left
pub returns : goal.returns
returns c = record { length = runs_through_end c.loop-place.invariant.runs c.in-None.ensures.steps.0 }
