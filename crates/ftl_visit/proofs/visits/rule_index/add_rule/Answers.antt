use Rattle.std.proofs.Common.{arith, ◌≡◌, take, ap, sym, ◌∙◌}
use Rattle.std.specs.List.{position}
use Rattle.std.proofs.lemmas.List.{length-take-le}
use Rattle.ftl_meaning.specs.faults.Checked.{rule_info_at}
use Rattle.ftl_deps.specs.reads.Meant.{meant}
use Rattle.ftl_deps.specs.reads.Products.{or_this, name_of_info}
use Rattle.ftl_deps.proofs.reads.RuleNumbers.{rules_long, rules_more}
use Rattle.ftl_visit.specs.visits.Targets.{at_target, defines, same_target, target_of}
use Rattle.ftl_visit.specs.declared.visits.target.Target.{Target}
use Rattle.ftl_visit.proofs.visits.FirstRules.{rule_more}
use Rattle.ftl_visit.proofs.visits.rule_index.add_rule.Goals as goal

pub returns : goal.returns
returns c = record {
  first = λ x.
      let checked = c.args.checked.now in
      let n = c.args.rule in
      let told = rule_info_at checked.grammar n in
      let rules = (meant checked).rules in
      let old = c.args.numbers.now in
      let new = c.add.new.numbers in
      let here : c.target_of.result ≡ target_of (name_of_info told) =
      c.target_of.ensures.target ∙ ap (λ i. target_of (name_of_info i)) c.rule-info.ensures.info in
      let long = rules_long checked c.requires.lawful in
      let within = c.requires.within in
      rule_more (take n rules) (name_of_info told) n (at_target old) (at_target new)
      (length-take-le n rules (grind (arith, long, within)))
      c.requires.first
      (λ y. c.in_ok-add.ensures.added y ∙ ap (λ (w : Target). or_this (at_target old y) (same_target w y) n) here)
      x
      ∙ ap (position (defines x)) (sym (rules_more checked c.requires.lawful n c.requires.within));
}
