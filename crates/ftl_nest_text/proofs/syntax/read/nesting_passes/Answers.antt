use Rattle.std.proofs.Common.{rules, arith}
use Rattle.std.proofs.lemmas.Grind.{common_steps}
use Rattle.ftl_tokens.specs.reading.Reader.{push}
use Rattle.ftl_tokens.proofs.reading.TurnLemmas.{turn, no_turn}
use Rattle.ftl_nest_text.specs.syntax.NestReading as spec
use Rattle.ftl_nest_text.proofs.syntax.read.nesting_passes.Goals as goal

pub returns-in_err-item : goal.returns-in_err-item
returns-in_err-item c = record {
  reads =
      let l = c.loop-turn in
      let e = turn push spec.more_nesting_pass _ l._turn l.found l.input c.loop-turn-test.true l.invariant in
      first_of (search rules, grind (arith, common_steps));
}

pub returns-in_default : goal.returns-in_default
returns-in_default c = record {
  reads =
      let l = c.loop-turn in
      let e = turn push spec.more_nesting_pass _ l._turn l.found l.input c.loop-turn-test.true l.invariant in
      first_of (search rules, grind (arith, common_steps));
}

pub loop-turn-preserved : goal.loop-turn-preserved
loop-turn-preserved c =
    let l = c.loop-turn in
    let e = turn push spec.more_nesting_pass _ l._turn l.found l.input c.loop-turn-test.true l.invariant in
    first_of (search rules, grind (arith, common_steps))

pub returns : goal.returns
returns c = record {
  reads =
      let l = c.loop-turn in
      let e = no_turn push spec.more_nesting_pass _ l._turn l.found l.input c.loop-turn-test.false l.invariant in
      first_of (search rules, grind (arith, common_steps));
}
