use Rattle.std.proofs.Common.{ℕ, ◌-◌, ◌<◌, length}
use Rattle.ftl_document.specs.pass.Steps.{HasPlainNames}
use Rattle.ftl_document.proofs.pass.names.names_are_plain.Given as goal

abbrev pub invariant-loop-class : goal.invariant-loop-class
invariant-loop-class l = (k : ℕ) → k < l.class → HasPlainNames l.checked.grammar k

abbrev pub decreases-loop-class : goal.decreases-loop-class
decreases-loop-class l = length l.checked.grammar.classes - l.class
