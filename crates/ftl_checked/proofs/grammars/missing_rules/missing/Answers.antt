use Rattle.std.proofs.Common.{Option, sym, subst}
use Rattle.ftl_meaning.specs.faults.Finds.{Finds}
use Rattle.ftl_meaning.specs.declared.faults.fault.GrammarFault.{GrammarFault}
use Rattle.ftl_checked.proofs.grammars.MissingLists.{missing_parts}
use Rattle.ftl_checked.proofs.grammars.missing_rules.missing.Goals as goal

pub returns : goal.returns
returns c =
    let P : Option GrammarFault → Type 0 = λ o. Finds o c.missing_of_class.result in
    record { finds = subst P (sym (missing_parts c.args.grammar.now c.args.number)) c.missing_of_class.ensures.finds }
