use Rattle.std.proofs.Common.{arith}
use Rattle.std.proofs.lemmas.Grind.{common_steps}
use Rattle.ftl_grammar.specs.declared.syntax.rules.Interface.{Interface}
use Rattle.ftl_meaning.proofs.faults.Numbered.{count_within}
use Rattle.ftl_checked.proofs.lookup.tables.interface_tables.Goals as goal

pub one_interface-requires : goal.one_interface-requires
one_interface-requires c =
    let within = count_within (λ (x : Interface). x.attrs) c.args.interfaces.now c.loop-interface.interface-index c.interface-item.result (grind (arith, common_steps)) in
    grind (arith, common_steps)

pub overflow_cast-start : goal.overflow_cast-start
overflow_cast-start c =
    let within = count_within (λ (x : Interface). x.attrs) c.args.interfaces.now c.loop-interface.interface-index c.interface-item.result (grind (arith, common_steps)) in
    grind (arith, common_steps)

pub overflow_add-start : goal.overflow_add-start
overflow_add-start c =
    let within = count_within (λ (x : Interface). x.attrs) c.args.interfaces.now c.loop-interface.interface-index c.interface-item.result (grind (arith, common_steps)) in
    grind (arith, common_steps)
