use Rattle.std.proofs.Common.{◌≡◌, ◌-◌, ◌∷◌, []}
use Rattle.ftl_tokens.specs.reading.Reader.{push, chain, chain_of}
use Rattle.ftl_nest_text.specs.syntax.NestReading as spec
use Rattle.ftl_nest_text.proofs.syntax.read.nesting_passes.Given as goal

abbrev pub invariant-loop-turn : goal.invariant-loop-turn
invariant-loop-turn l =
    let item = spec.more_nesting_pass in
    chain_of push item (l.fn.first ∷ []) l.fn.input ≡ chain push item (l._turn-end - l._turn) l.found l.input
