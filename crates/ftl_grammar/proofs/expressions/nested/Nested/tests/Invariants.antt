use Rattle.std.proofs.Common.{◌≡◌, ◌-◌, ◌∷◌, []}
use Rattle.ftl_tokens.specs.reading.Reader.{push, chain, chain_of}
use Rattle.ftl_grammar.specs.syntax.ExpressionReading as spec
use Rattle.ftl_grammar.proofs.expressions.nested.Nested.tests.Given as goal

abbrev pub invariant-loop-turn : goal.invariant-loop-turn
invariant-loop-turn g l =
    let item = spec.and_test (spec.expr l.self.depth) (spec.cond l.self.depth) in
    chain_of push item (l.fn.first ∷ []) l.fn.input ≡ chain push item (l._turn-end - l._turn) l.found l.input
