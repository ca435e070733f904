use Rattle.std.proofs.Common.{◌≡◌, ◌-◌, []}
use Rattle.ftl_tokens.specs.reading.Reader.{chain, chain_of}
use Rattle.ftl_grammar.specs.syntax.InterfaceReading as spec
use Rattle.ftl_grammar.proofs.reading.attrs.own_attrs.Given as goal

abbrev pub invariant-loop-turn : goal.invariant-loop-turn
invariant-loop-turn l =
    let item = spec.own_attrs in
    chain_of spec.append item [] l.fn.input ≡ chain spec.append item (l._turn-end - l._turn) l.found l.input
