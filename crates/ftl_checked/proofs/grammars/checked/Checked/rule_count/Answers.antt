use Rattle.std.proofs.Common.{arith, length, ap, ◌∙◌}
use Rattle.std.proofs.lemmas.Grind.{common_steps}
use Rattle.std.proofs.lemmas.List.{length-map}
use Rattle.ftl_meaning.specs.faults.Checked.{all_rules, rule_info}
use Rattle.ftl_checked.proofs.lookup.AttrInfos.{rule_count_is}
use Rattle.ftl_checked.proofs.grammars.checked.Checked.rule_count.Goals as goal

pub overflow_cast-result : goal.overflow_cast-result
overflow_cast-result c =
    let g = c.self.inside.grammar in
    let small = c.self.invariant.small in
    let kept = ap length c.self.invariant.rules ∙ length-map (all_rules g) (rule_info g) ∙ rule_count_is g in
    let rules = small.rules in
    grind (arith, common_steps)
