use Rattle.std.proofs.Common.{arith, ◌≡◌, ◌<◌, ◌++◌, [], ◌∷◌, List, length, map, take, ap, ap₂, sym, ◌∙◌}
use Rattle.std.proofs.lemmas.Grind.{common_steps}
use Rattle.std.proofs.lemmas.List.{map-append}
use Rattle.ftl_meaning.specs.faults.Checked.{all_rules, rule_info_at}
use Rattle.ftl_deps.specs.reads.Meant.{meant}
use Rattle.ftl_deps.specs.reads.Products.{name_of_info}
use Rattle.ftl_deps.proofs.reads.RuleNumbers.{rules_all, rules_more}
use Rattle.ftl_visit.specs.passes.VisitRows.{target_of}
use Rattle.ftl_visit.specs.declared.passes.rule_target.RuleTarget.{RuleTarget}
use Rattle.ftl_visit.proofs.passes.rule_target.rule_targets.Goals as goal

pub loop-rule-preserved : goal.loop-rule-preserved
loop-rule-preserved c =
    let checked = c.args.checked.now in
    let n = c.loop-rule.rule in
    let rules = (meant checked).rules in
    let name = name_of_info (rule_info_at checked.grammar n) in
    let within : n < length (all_rules checked.grammar) = grind (arith, common_steps) in
    let items : c.push.new.self.items ≡ c.loop-rule.targets.items ++ c.target_of.result ∷ [] =
    grind (arith, common_steps) in
    items
    ∙ ap₂ (λ (a : List RuleTarget) (b : RuleTarget). a ++ b ∷ []) c.loop-rule.invariant
    (c.target_of.ensures.target ∙ ap (λ i. target_of (name_of_info i)) c.rule.ensures.info)
    ∙ sym (map-append target_of (take n rules) (name ∷ []))
    ∙ ap (map target_of) (sym (rules_more checked c.has_no_fault.ensures.none n within))

pub returns : goal.returns
returns c =
    let checked = c.args.checked.now in
    let rules = (meant checked).rules in
    let done : c.loop-rule.rule ≡ length (all_rules checked.grammar) = grind (arith, common_steps) in
    record {
      targets =
          c.loop-rule.invariant
          ∙ ap (λ n. map target_of (take n rules)) done
          ∙ ap (map target_of) (rules_all checked c.has_no_fault.ensures.none);
    }
