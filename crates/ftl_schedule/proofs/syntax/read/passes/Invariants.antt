use Rattle.std.proofs.Common.{◌≡◌, ◌-◌, ◌∷◌, []}
use Rattle.ftl_tokens.specs.reading.Reader.{push, chain, chain_of}
use Rattle.ftl_schedule.specs.syntax.Reading as spec
use Rattle.ftl_schedule.proofs.syntax.read.passes.Given as goal

abbrev pub invariant-loop-turn : goal.invariant-loop-turn
invariant-loop-turn l =
    let item = spec.more_pass in
    chain_of push item (l.fn.first ∷ []) l.fn.input ≡ chain push item (l._turn-end - l._turn) l.found l.input
