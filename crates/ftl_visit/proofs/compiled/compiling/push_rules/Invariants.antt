use Rattle.std.proofs.Common.{◌≡◌, ◌++◌, drop, map}
use Rattle.ftl_base.specs.Widths.{greatest_of_width}
use Rattle.ftl_visit.specs.compiled.Pieces.{IsBuilt, codes_in}
use Rattle.ftl_visit.specs.compiled.RuleCode.{rule_code}
use Rattle.ftl_visit.proofs.compiled.compiling.push_rules.Given as goal

abbrev pub invariant-loop-rule : goal.invariant-loop-rule
invariant-loop-rule l =
    (codes_in l.built ++ map (λ r. rule_code r.body) (drop l.rule-index l.rules)
    ≡ codes_in l.initial.built ++ map (λ r. rule_code r.body) l.rules)
    × IsBuilt (greatest_of_width l.width) l.built
