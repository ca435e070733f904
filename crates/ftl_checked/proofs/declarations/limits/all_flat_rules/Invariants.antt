use Rattle.std.proofs.Common.{◌≡◌, ◌++◌, drop}
use Rattle.ftl_meaning.specs.faults.FirstFault.{first_of, read_limits}
use Rattle.ftl_checked.specs.declarations.FlatRules.{rules_in, rules_of_each}
use Rattle.ftl_checked.proofs.declarations.limits.all_flat_rules.Given as goal

abbrev pub invariant-loop-class : goal.invariant-loop-class
invariant-loop-class l = record {
  faults : first_of (λ x. first_of read_limits x.rules) l.classes
      ≡ first_of (λ x. first_of read_limits x.rules) (drop l.class-index l.classes);
  rules : rules_in l.flat ++ rules_of_each (drop l.class-index l.classes) ≡ rules_of_each l.classes;
}
