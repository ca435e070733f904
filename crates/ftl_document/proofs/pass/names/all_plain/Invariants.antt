use Rattle.std.proofs.Common.{ℕ, ◌-◌, ◌<◌, length, get_or, []}
use Rattle.ftl_document.specs.pass.Good.{IsPlainName}
use Rattle.ftl_document.proofs.pass.names.all_plain.Given as goal

abbrev pub invariant-loop-at : goal.invariant-loop-at
invariant-loop-at l = (i : ℕ) → i < l.at → IsPlainName (get_or l.names i [])

abbrev pub decreases-loop-at : goal.decreases-loop-at
decreases-loop-at l = length l.names - l.at
