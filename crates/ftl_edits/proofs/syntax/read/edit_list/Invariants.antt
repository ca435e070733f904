use Rattle.std.proofs.Common.{◌≡◌, ◌-◌, []}
use Rattle.ftl_tokens.specs.reading.Reader.{push, chain, chain_of}
use Rattle.ftl_edits.specs.syntax.Reading as spec
use Rattle.ftl_edits.proofs.syntax.read.edit_list.Given as goal

abbrev pub invariant-loop-turn : goal.invariant-loop-turn
invariant-loop-turn l =
    let item = spec.more_edit in
    chain_of push item [] l.fn.input ≡ chain push item (l._turn-end - l._turn) l.found l.input
