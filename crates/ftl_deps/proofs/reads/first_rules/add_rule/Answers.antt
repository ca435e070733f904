use Rattle.std.proofs.Common.{arith, ◌≡◌, ◌<◌, length, take, ap, sym, subst, ◌∙◌}
use Rattle.std.specs.Prelude.{IfSome}
use Rattle.std.specs.List.{position}
use Rattle.std.proofs.lemmas.List.{length-take-le}
use Rattle.ftl_meaning.specs.faults.Checked.{rule_info_at}
use Rattle.ftl_meaning.specs.faults.Numbering.{class_at}
use Rattle.ftl_meaning.specs.declared.faults.info.RuleInfo.{RuleInfo}
use Rattle.ftl_deps.specs.reads.Meant.{meant}
use Rattle.ftl_deps.specs.reads.Products.{at_product, or_this, same_product, name_of_info, writes, written_elsewhere}
use Rattle.ftl_deps.specs.reads.Products.{written_here}
use Rattle.ftl_deps.specs.declared.reads.product.Product.{Product}
use Rattle.ftl_deps.proofs.reads.FirstRules.{rule_more}
use Rattle.ftl_deps.proofs.reads.RuleNumbers.{child_known, class_known, rules_long, rules_more}
use Rattle.ftl_deps.proofs.reads.first_rules.add_rule.Goals as goal

pub written_elsewhere-requires-clause-class : goal.written_elsewhere-requires-clause-class
written_elsewhere-requires-clause-class c =
    let checked = c.args.checked.now in
    subst (λ (i : RuleInfo). i.class < length checked.grammar.classes) (sym c.rule-info.ensures.info)
    (class_known checked c.requires.lawful c.args.rule c.requires.within)

pub written_elsewhere-requires-clause-child : goal.written_elsewhere-requires-clause-child
written_elsewhere-requires-clause-child c =
    let checked = c.args.checked.now in
    subst (λ (i : RuleInfo). IfSome i.child (λ d. d < length (class_at checked.grammar i.class).children))
    (sym c.rule-info.ensures.info) (child_known checked c.requires.lawful c.args.rule c.requires.within)

pub returns : goal.returns
returns c = record {
  first = λ p.
      let checked = c.args.checked.now in
      let n = c.args.rule in
      let told = rule_info_at checked.grammar n in
      let rules = (meant checked).rules in
      let old = c.args.first.now in
      let mid = c.add.new.first in
      let new = c.add-2.new.first in
      let here : c.written_here.result ≡ written_here (name_of_info told) =
      c.written_here.ensures.product ∙ ap (λ i. written_here (name_of_info i)) c.rule-info.ensures.info in
      let there : c.written_elsewhere.result ≡ written_elsewhere (meant checked) (name_of_info told) =
      c.written_elsewhere.ensures.product ∙ ap (λ i. written_elsewhere (meant checked) (name_of_info i)) c.rule-info.ensures.info in
      let long = rules_long checked c.requires.lawful in
      let within = c.requires.within in
      rule_more (meant checked) (take n rules) (name_of_info told) n (at_product old) (at_product mid) (at_product new)
      (length-take-le n rules (grind (arith, long, within)))
      c.requires.first
      (λ q. c.in_ok-add.ensures.added q ∙ ap (λ (w : Product). or_this (at_product old q) (same_product w q) n) here)
      (λ q. c.in_ok-add-2.ensures.added q ∙ ap (λ (w : Product). or_this (at_product mid q) (same_product w q) n) there)
      p
      ∙ ap (position (writes (meant checked) p)) (sym (rules_more checked c.requires.lawful n c.requires.within));
}
