use Rattle.std.proofs.Common.{arith}
use Rattle.std.proofs.lemmas.Grind.{common_steps}
use Rattle.ftl_grammar.specs.declared.syntax.rules.Interface.{Interface}
use Rattle.ftl_visit.proofs.rule_tables.AttributeRuns.{run_within}
use Rattle.ftl_visit.proofs.rule_tables.attributes.shared_before.Goals as goal

pub overflow_add-total : goal.overflow_add-total
overflow_add-total c =
    let x = c.index-interfaces-at.result in
    let w = run_within (λ (y : Interface). y.attrs) c.args.interfaces.now c.loop-at.at x (let h =
    c.loop-at-test.true in let k = c.requires.within in omega (arith, h, k)) in
    let len = c.len-total.ensures in
    let is = c.index-interfaces-at.is in
    grind (arith, common_steps, w, len, is)
