use Rattle.std.proofs.Common.{rules, arith}
use Rattle.std.proofs.lemmas.Grind.{common_steps}
use Rattle.ftl_tokens.specs.reading.Reader.{push}
use Rattle.ftl_tokens.proofs.reading.TurnLemmas.{until_turn, no_until_turn}
use Rattle.ftl_grammar.specs.syntax.GrammarReading as spec
use Rattle.ftl_grammar.proofs.reading.declarations.children.Goals as goal

pub returns-in_err-member : goal.returns-in_err-member
returns-in_err-member c = record {
  reads =
      let l = c.loop-turn in
      let item = spec.member spec.any_expr in
      let e = until_turn push item _ l._turn l.found l.input c.loop-turn-test.true l.invariant in
      first_of (search rules, grind (arith, common_steps));
}

pub returns-in-Stop : goal.returns-in-Stop
returns-in-Stop c = record {
  reads =
      let l = c.loop-turn in
      let item = spec.member spec.any_expr in
      let e = until_turn push item _ l._turn l.found l.input c.loop-turn-test.true l.invariant in
      first_of (search rules, grind (arith, common_steps));
}

pub returns-in-Last : goal.returns-in-Last
returns-in-Last c = record {
  reads =
      let l = c.loop-turn in
      let item = spec.member spec.any_expr in
      let e = until_turn push item _ l._turn l.found l.input c.loop-turn-test.true l.invariant in
      first_of (search rules, grind (arith, common_steps));
}

pub loop-turn-preserved : goal.loop-turn-preserved
loop-turn-preserved c =
    let l = c.loop-turn in
    let item = spec.member spec.any_expr in
    let e = until_turn push item _ l._turn l.found l.input c.loop-turn-test.true l.invariant in
    first_of (search rules, grind (arith, common_steps))

pub returns : goal.returns
returns c = record {
  reads =
      let l = c.loop-turn in
      let item = spec.member spec.any_expr in
      let e = no_until_turn push item _ l._turn l.found l.input c.loop-turn-test.false l.invariant in
      first_of (search rules, grind (arith, common_steps));
}
