use Rattle.std.proofs.Common.{◌≡◌, ◌++◌, drop, map}
use Rattle.ftl_meaning.specs.faults.FirstFault.{first_of, read_limits}
use Rattle.ftl_checked.specs.declarations.FlatRules.{rule_in}
use Rattle.ftl_checked.proofs.declarations.limits.flat_rules.Given as goal

abbrev pub invariant-loop-rule : goal.invariant-loop-rule
invariant-loop-rule l = record {
  faults : first_of read_limits l.rules ≡ first_of read_limits (drop l.rule-index l.rules);
  rules : map rule_in l.flat ++ drop l.rule-index l.rules ≡ l.rules;
}
