use Rattle.std.proofs.Common.{◌≡◌, get_or, [], sym, subst, arith, rules}
use Rattle.std.proofs.lemmas.Grind.{common_steps}
use Rattle.ftl_document.specs.faults.FirstFault.{needed_names}
use Rattle.ftl_document.specs.pass.Good.{IsPlainName}
use Rattle.ftl_document.proofs.pass.nodes.Pass.field_name.Goals as goal

pub returns-clause-plain : goal.returns-clause-plain
returns-clause-plain c =
    let g = c.args.self.now.checked.now.grammar in
    let same : c.as_bytes.result.now ≡ get_or (needed_names g c.args.class) c.args.place [] =
    first_of (search rules, grind (arith, common_steps)) in
    subst IsPlainName (sym same) ((c.requires.ready.names c.args.class c.requires.known).fields c.args.place c.requires.place)
