use Rattle.std.proofs.Common.{Option, sym, subst}
use Rattle.ftl_meaning.specs.faults.Finds.{Finds}
use Rattle.ftl_meaning.specs.declared.faults.fault.GrammarFault.{GrammarFault}
use Rattle.ftl_checked.proofs.declarations.NameLists.{name_fault_is}
use Rattle.ftl_checked.proofs.declarations.names.names_stand.Goals as goal

pub returns : goal.returns
returns c =
    let P : Option GrammarFault → Type 0 = λ o. Finds o c.names_in_turn.result in
    record { finds = subst P (sym (name_fault_is c.args.grammar.now)) c.names_in_turn.ensures.finds }
