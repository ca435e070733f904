use Rattle.std.proofs.Common.{rules, arith}
use Rattle.std.proofs.lemmas.Grind.{common_steps}
use Rattle.ftl_tokens.specs.reading.Reader.{push}
use Rattle.ftl_tokens.proofs.reading.TurnLemmas.{turn, no_turn}
use Rattle.ftl_grammar.specs.syntax.ExpressionReading as spec
use Rattle.ftl_grammar.specs.syntax.SumReading as sums
use Rattle.ftl_grammar.proofs.expressions.nested.Nested.signed_terms.Goals as goal

pub returns-in_err-item : goal.returns-in_err-item
returns-in_err-item g c = record {
  reads =
      let l = c.loop-turn in
      let depth = c.args.self.now.depth in
      let item = sums.signed (spec.expr depth) in
      let e = turn push item _ l._turn l.found l.input c.loop-turn-test.true l.invariant in
      first_of (search rules, grind (arith, common_steps));
}

pub returns-in_default : goal.returns-in_default
returns-in_default g c = record {
  reads =
      let l = c.loop-turn in
      let depth = c.args.self.now.depth in
      let item = sums.signed (spec.expr depth) in
      let e = turn push item _ l._turn l.found l.input c.loop-turn-test.true l.invariant in
      first_of (search rules, grind (arith, common_steps));
}

pub loop-turn-preserved : goal.loop-turn-preserved
loop-turn-preserved g c =
    let l = c.loop-turn in
    let depth = c.args.self.now.depth in
    let item = sums.signed (spec.expr depth) in
    let e = turn push item _ l._turn l.found l.input c.loop-turn-test.true l.invariant in
    first_of (search rules, grind (arith, common_steps))

pub returns : goal.returns
returns g c = record {
  reads =
      let l = c.loop-turn in
      let depth = c.args.self.now.depth in
      let item = sums.signed (spec.expr depth) in
      let e = no_turn push item _ l._turn l.found l.input c.loop-turn-test.false l.invariant in
      first_of (search rules, grind (arith, common_steps));
}
