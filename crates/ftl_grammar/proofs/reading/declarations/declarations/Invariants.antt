use Rattle.std.proofs.Common.{◌≡◌, ◌-◌, []}
use Rattle.ftl_tokens.specs.reading.Reader.{chain, chain_of}
use Rattle.ftl_grammar.specs.syntax.GrammarReading as spec
use Rattle.ftl_grammar.proofs.reading.declarations.declarations.Given as goal

abbrev pub invariant-loop-turn : goal.invariant-loop-turn
invariant-loop-turn l =
    let item = spec.declaration spec.any_expr in
    chain_of spec.add_declaration item ([], []) l.fn.input
    ≡ chain spec.add_declaration item (l._turn-end - l._turn) (l.interfaces, l.classes) l.input
