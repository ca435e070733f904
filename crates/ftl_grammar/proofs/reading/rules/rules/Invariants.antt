use Rattle.std.proofs.Common.{◌≡◌, ◌-◌}
use Rattle.ftl_tokens.specs.reading.Reader.{push, chain, chain_of}
use Rattle.ftl_grammar.specs.syntax.GrammarReading as spec
use Rattle.ftl_grammar.proofs.reading.rules.rules.Given as goal

abbrev pub invariant-loop-turn : goal.invariant-loop-turn
invariant-loop-turn l =
    let item = spec.rule spec.any_expr in
    chain_of push item (spec.list_of l.fn.first) l.fn.input ≡ chain push item (l._turn-end - l._turn) l.found l.input
