use Rattle.std.proofs.Common.{◌≡◌, ◌-◌, ◌∷◌, []}
use Rattle.ftl_tokens.specs.reading.Reader.{push, chain, chain_of}
use Rattle.ftl_grammar.specs.syntax.InterfaceReading as spec
use Rattle.ftl_grammar.proofs.reading.attrs.more_names.Given as goal

abbrev pub invariant-loop-turn : goal.invariant-loop-turn
invariant-loop-turn l =
    let item = spec.comma_name in
    chain_of push item (l.fn.first ∷ []) l.fn.input ≡ chain push item (l._turn-end - l._turn) l.found.items l.input
