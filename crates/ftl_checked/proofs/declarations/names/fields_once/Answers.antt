use Rattle.std.proofs.Common.{Option, sym, subst}
use Rattle.ftl_meaning.specs.faults.Finds.{Finds}
use Rattle.ftl_meaning.specs.declared.faults.fault.GrammarFault.{GrammarFault}
use Rattle.ftl_checked.proofs.declarations.NameLists.{fields_are}
use Rattle.ftl_checked.proofs.declarations.names.fields_once.Goals as goal

pub returns : goal.returns
returns c =
    let P : Option GrammarFault → Type 0 = λ o. Finds o c.fields_in_turn.result in
    record {
      finds = subst P (sym (fields_are c.args.shared.now c.args.own.now c.args.children.now c.args.none.now c.requires.none c.requires.shared))
          c.fields_in_turn.ensures.finds;
    }
