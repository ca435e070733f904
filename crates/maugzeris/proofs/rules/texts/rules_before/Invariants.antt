use Rattle.std.proofs.Common.{◌≡◌, length, flat_map, take}
use Rattle.maugzeris.proofs.rules.texts.rules_before.Given as goal

abbrev pub invariant-loop-number : goal.invariant-loop-number
invariant-loop-number l = l.rules ≡ length (flat_map (λ k. k.rules) (take l.number l.classes))
