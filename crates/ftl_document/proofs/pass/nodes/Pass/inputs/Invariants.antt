use Rattle.std.proofs.Common.{◌-◌, ◌≤◌, length, drop}
use Rattle.ftl_document.specs.faults.FirstFault.{input_names}
use Rattle.ftl_document.specs.pass.Good.{AreInputs, State}
use Rattle.ftl_document.specs.pass.Parts.{state_of}
use Rattle.ftl_document.proofs.pass.nodes.Pass.inputs.Given as goal

abbrev pub invariant-loop-input : goal.invariant-loop-input
invariant-loop-input l =
    let g = l.self.checked.now.grammar in
    let greatest = l.self.greatest in
    record {
      within : l.input ≤ length (input_names g l.class);
      more : (t : State)
          → AreInputs greatest (drop l.input (input_names g l.class)) (state_of greatest l.passed) t
          → AreInputs greatest (input_names g l.class) (state_of greatest l.fn.passed) t;
    }

abbrev pub decreases-loop-input : goal.decreases-loop-input
decreases-loop-input l = length (input_names l.self.checked.now.grammar l.class) - l.input
