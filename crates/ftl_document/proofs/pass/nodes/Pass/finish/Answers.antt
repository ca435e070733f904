use Rattle.std.proofs.Common.{List, refl, sym, subst}
use Rattle.ftl_document.specs.declared.pass.open_nodes.OpenNode.{OpenNode}
use Rattle.ftl_document.specs.pass.Left.{IsLeft, nothing_left}
use Rattle.ftl_document.specs.pass.Parts.{state_of}
use Rattle.ftl_document.proofs.pass.nodes.Pass.finish.Goals as goal

pub returns-in-None : goal.returns-in-None
returns-in-None c =
    let g = c.args.self.now.checked.now.grammar in
    let greatest = c.args.self.now.greatest in
    let last = state_of greatest c.loop.passed in
    record {
      left =
          c.loop.invariant.left last
          (subst (λ (l : List OpenNode). IsLeft g greatest l last last) (sym (c.in-None.ensures.ended refl)) nothing_left);
    }
