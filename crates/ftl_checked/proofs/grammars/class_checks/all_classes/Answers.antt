use Rattle.std.proofs.Common.{arith, ◌≡◌, ◌<◌, [], length, get_or, map}
use Rattle.std.proofs.lemmas.Grind.{common_steps}
use Rattle.ftl_grammar.specs.syntax.Trees as trees
use Rattle.ftl_checked.specs.declarations.FlatRules.{rule_in}
use Rattle.ftl_meaning.specs.faults.Numbering.{class_at}
use Rattle.ftl_checked.proofs.grammars.RuleInfos.{flat_at}
use Rattle.ftl_checked.proofs.grammars.class_checks.all_classes.Goals as goal

pub one_class-requires-clause-rules : goal.one_class-requires-clause-rules
one_class-requires-clause-rules c =
    let xs = c.args.grammar.now.classes in
    let k = c.loop-number.number in
    let within : k < length xs = grind (arith, common_steps) in
    let at : map rule_in (get_or c.args.flat.now k []) ≡ (class_at c.args.grammar.now k).rules =
    flat_at c.args.flat.now xs k (trees.class [] [] [] [] []) c.requires.flat within in
    grind (arith, common_steps)
