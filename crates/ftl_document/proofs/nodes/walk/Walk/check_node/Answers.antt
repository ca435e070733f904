use Rattle.std.proofs.Common.{◌∙◌, refl}
use Rattle.ftl_document.specs.faults.FirstFault.{node_fault}
use Rattle.ftl_document.specs.faults.Nodes.{standing}
use Rattle.ftl_document.specs.fields.OwnFields.{own_of}
use Rattle.ftl_document.proofs.nodes.Filled.{filled}
use Rattle.ftl_document.proofs.nodes.Handed.{handed, seen}
use Rattle.ftl_document.proofs.nodes.walk.Walk.check_node.Goals as goal

pub returns-in_err-class-clause-exact : goal.returns-in_err-class-clause-exact
returns-in_err-class-clause-exact c written is =
    let g = c.args.self.now.checked.now.grammar in
    let next = c.args.next in
    handed (node_fault g (c.args.number, standing next.wanted next.class.now written)) c.in_err-class.field-0.0
    c.from_residual.result c.from_residual.ensures.1
    (λ memory.
    seen g c.args.number next.wanted next.class.now (own_of written) written refl
    ∙ c.in_err-class.ensures.class memory (own_of written))

pub returns-in_err-found-clause-exact : goal.returns-in_err-found-clause-exact
returns-in_err-found-clause-exact c written is =
    let g = c.args.self.now.checked.now.grammar in
    let next = c.args.next in
    let class = c.in_ok-class.ensures.class in
    let own = c.deref.ensures.value ∙ c.in_ok-own_fields.ensures.fields written is in
    handed (node_fault g (c.args.number, standing next.wanted next.class.now written)) c.in_err-found.field-0.0
    c.from_residual-in_err-found.result c.from_residual-in_err-found.ensures.1
    (λ memory.
    seen g c.args.number next.wanted next.class.now c.deref.result.now written own
    ∙ c.in_err-found.ensures.exact next.class.now next.wanted class.named class.interface memory)

pub returns-clause-exact : goal.returns-clause-exact
returns-clause-exact c written is =
    let g = c.args.self.now.checked.now.grammar in
    let next = c.args.next in
    let class = c.in_ok-class.ensures.class in
    let own = c.deref.ensures.value ∙ c.in_ok-own_fields.ensures.fields written is in
    seen g c.args.number next.wanted next.class.now c.deref.result.now written own
    ∙ c.in_ok-found.ensures.exact next.class.now next.wanted class.named class.interface

pub returns-clause-filled : goal.returns-clause-filled
returns-clause-filled c written is =
    let g = c.args.self.now.checked.now.grammar in
    let next = c.args.next in
    let class = c.in_ok-class.ensures.class in
    let own = c.deref.ensures.value ∙ c.in_ok-own_fields.ensures.fields written is in
    filled g c.requires.ready.lawful c.args.number next.wanted c.in_ok-class.class next.class.now written class
    (seen g c.args.number next.wanted next.class.now c.deref.result.now written own
    ∙ c.in_ok-found.ensures.exact next.class.now next.wanted class.named class.interface)
    c.check_fields-found.new.slots c.deref.result.now own c.in_ok-found.ensures.placed
