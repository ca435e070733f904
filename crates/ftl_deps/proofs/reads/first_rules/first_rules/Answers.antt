use Rattle.std.proofs.Common.{arith, ◌≡◌, length, take, ap, ◌∙◌}
use Rattle.std.specs.List.{position}
use Rattle.std.proofs.lemmas.Grind.{common_steps}
use Rattle.ftl_meaning.specs.faults.Checked.{all_rules}
use Rattle.ftl_deps.specs.reads.Meant.{meant}
use Rattle.ftl_deps.specs.reads.Products.{writes}
use Rattle.ftl_deps.proofs.reads.RuleNumbers.{rules_all}
use Rattle.ftl_deps.proofs.reads.first_rules.first_rules.Goals as goal

pub returns : goal.returns
returns c = record {
  first = λ p.
      let checked = c.args.checked.now in
      let done : c.loop-rule.rule ≡ length (all_rules checked.grammar) = grind (arith, common_steps) in
      c.loop-rule.invariant p
      ∙ ap (position (writes (meant checked) p))
      (ap (λ n. take n (meant checked).rules) done ∙ rules_all checked c.requires.lawful);
}
