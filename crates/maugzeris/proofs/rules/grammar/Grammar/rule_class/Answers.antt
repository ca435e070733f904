use Rattle.std.proofs.Common.{◌<◌, ap, length, subst, sym, []}
use Rattle.ftl_checked.proofs.lookup.Standing.{rule_is_of}
use Rattle.ftl_meaning.specs.declared.faults.info.RuleInfo.{RuleInfo}
use Rattle.ftl_meaning.specs.faults.Checked.{CheckedGrammar, all_rules}
use Rattle.ftl_meaning.specs.faults.Worked.{num, self_is}
use Rattle.maugzeris.proofs.rules.grammar.Grammar.rule_class.Goals as goal

pub class_name-requires : goal.class_name-requires
class_name-requires c = record {
  within =
      (rule_is_of c.checked-checked.result.now.grammar (self_is [] (num 0)) c.args.rule c.rule-class.result.class
      (subst (λ (k : CheckedGrammar). c.args.rule < length (all_rules k.grammar)) (sym c.checked-checked.ensures.checked)
      c.requires.rule) (ap (λ (i : RuleInfo). i.class) c.rule-class.ensures.info)).class_within;
}
