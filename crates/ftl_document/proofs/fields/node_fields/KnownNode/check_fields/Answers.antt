use Rattle.std.proofs.Common.{◌∙◌, sym, subst, map, []}
use Rattle.ftl_document.specs.faults.FirstFault.{field_faults, first_there, missing_fault}
use Rattle.ftl_document.specs.fields.OwnFields.{head_in}
use Rattle.ftl_document.specs.fields.Placed.{Finds}
use Rattle.ftl_document.proofs.fields.NodeFaults.{fault_missing, node_fault_is}
use Rattle.ftl_document.proofs.fields.node_fields.KnownNode.check_fields.Goals as goal

pub returns-clause-exact : goal.returns-clause-exact
returns-clause-exact c class wanted known same =
    let g = c.args.self.now.checked.now.grammar in
    let n = c.args.self.now.number in
    let k = c.args.self.now.class in
    let fields = c.args.fields.now in
    subst (λ o. Finds o c.all_there.result)
    (sym
    (node_fault_is g n k class wanted fields known same
    ∙ fault_missing (first_there (field_faults g n k [] (map head_in fields))) (missing_fault g n k (map head_in fields)) c.in_ok-place_fields.ensures.exact))
    (c.all_there.ensures.exact fields c.in_ok-place_fields.ensures.placed)
