use Rattle.std.proofs.Common.{◌≡◌, ◌-◌, []}
use Rattle.ftl_tokens.specs.reading.Reader.{push, until, until_of}
use Rattle.ftl_grammar.specs.syntax.GrammarReading as spec
use Rattle.ftl_grammar.proofs.reading.declarations.children.Given as goal

abbrev pub invariant-loop-turn : goal.invariant-loop-turn
invariant-loop-turn l =
    let item = spec.member spec.any_expr in
    until_of push item [] l.fn.input ≡ until push item (l._turn-end - l._turn) l.found l.input
