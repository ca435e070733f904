use Rattle.std.proofs.Common.{arith}
use Rattle.std.proofs.lemmas.Grind.{common_steps}
use Rattle.ftl_grammar.specs.declared.syntax.rules.Class.{Class}
use Rattle.ftl_meaning.proofs.faults.Numbered.{count_within}
use Rattle.ftl_checked.proofs.lookup.tables.class_tables.Goals as goal

pub overflow_add-start : goal.overflow_add-start
overflow_add-start c =
    let within = count_within (λ (x : Class). x.attrs) c.args.grammar.now.classes c.loop-class.class-index c.class-item.result (grind (arith, common_steps)) in
    let small = c.requires.small.attributes in
    grind (arith, common_steps)
