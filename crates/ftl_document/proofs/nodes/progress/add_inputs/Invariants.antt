use Rattle.std.proofs.Common.{◌≡◌, ◌++◌, map, take}
use Rattle.ftl_document.specs.nodes.Filled.{input_in}
use Rattle.ftl_document.proofs.nodes.progress.add_inputs.Given as goal

-- the inputs so far
abbrev pub invariant-loop-value : goal.invariant-loop-value
invariant-loop-value l = l.inputs.items ≡ l.initial.inputs.items ++ map input_in (take l.value-index l.values)
