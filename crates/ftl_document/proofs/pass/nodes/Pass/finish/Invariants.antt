use Rattle.ftl_document.specs.pass.Good.{State}
use Rattle.ftl_document.specs.pass.Left.{AreKnown, IsLeft}
use Rattle.ftl_document.specs.pass.Parts.{state_of}
use Rattle.ftl_document.proofs.pass.nodes.Pass.finish.Given as goal

abbrev pub invariant-loop : goal.invariant-loop
invariant-loop l =
    let g = l.self.checked.now.grammar in
    let greatest = l.self.greatest in
    record {
      known : AreKnown g l.stack;
      left : (end : State) → IsLeft g greatest l.stack (state_of greatest l.passed) end
          → IsLeft g greatest l.fn.stack (state_of greatest l.fn.passed) end;
    }
