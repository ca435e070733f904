use Rattle.ftl_visit.proofs.rule_values.Rules.{rule_computes, rule_has, rule_takes, rule_value}
use Rattle.ftl_visit.proofs.rule_values.laws.parts_give_the_rule.Goals as goal

pub returns : goal.returns
returns c =
    record {
      has = λ g rule is. rule_has g rule is;
      takes = λ g rule which code h. rule_takes g rule h.rule_is h.compilable which code h.is;
      computes = λ g rule which code h. rule_computes g rule h.rule_is h.compilable which code h.is;
      value = λ g rule is. rule_value g rule is;
    }
