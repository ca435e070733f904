use Rattle.std.proofs.Common.{arith, ◌≡◌, length, take, ap, ◌∙◌}
use Rattle.std.specs.List.{position}
use Rattle.std.proofs.lemmas.Grind.{common_steps}
use Rattle.ftl_meaning.specs.faults.Checked.{all_rules}
use Rattle.ftl_deps.specs.reads.Meant.{meant}
use Rattle.ftl_deps.proofs.reads.RuleNumbers.{rules_all}
use Rattle.ftl_visit.specs.visits.Targets.{defines}
use Rattle.ftl_visit.proofs.visits.rule_index.rule_numbers.Goals as goal

pub returns : goal.returns
returns c = record {
  first = λ x.
      let checked = c.args.checked.now in
      let done : c.loop-rule.rule ≡ length (all_rules checked.grammar) = grind (arith, common_steps) in
      c.loop-rule.invariant x
      ∙ ap (position (defines x))
      (ap (λ n. take n (meant checked).rules) done ∙ rules_all checked c.has_no_fault.ensures.none);
}
