use Rattle.std.proofs.Common.{◌≡◌, ◌<◌, ◌+◌, map, length, ap, sym, ◌∙◌, subst, arith, [], get_or}
use Rattle.std.proofs.lemmas.List.{get_or-map}
use Rattle.ftl_deps.specs.parts.RuleParts.{parts_meant}
use Rattle.ftl_meaning.specs.declared.faults.info.RuleInfo.{RuleInfo}
use Rattle.ftl_meaning.specs.faults.Checked.{all_rules, rule_info_at}
use Rattle.ftl_model.specs.layout.AttributeGrammar.{Parts, plain}
use Rattle.ftl_relayout.specs.readers.Tables.{Comes, IsOfParts, IsOfRules}
use Rattle.ftl_relayout.proofs.readers.AllReaders.{rules_before, rules_last, rules_none, rules_split}
use Rattle.ftl_relayout.proofs.readers.Comings.{comes_both, comes_none}
use Rattle.ftl_relayout.proofs.readers.table.add_rules.Goals as goal

pub loop-rule-init : goal.loop-rule-init
loop-rule-init c =
    comes_none c.args.classes c.args.lists.now (IsOfRules c.args.checked.now (map parts_meant c.args.parts.now) 0)
    (λ e is below. rules_none c.args.checked.now (map parts_meant c.args.parts.now) e is)

pub loop-rule-preserved : goal.loop-rule-preserved
loop-rule-preserved c =
    let k = c.args.checked.now in
    let ps = map parts_meant c.args.parts.now in
    let n = c.loop-rule.rule in
    let below = c.loop-rule-test.true in
    let count = c.rule_count-rule-end.ensures.count in
    let long = c.requires.parts in
    let within : n < length c.args.parts.now = omega (arith, below, count, long) in
    let part : parts_meant c.index-parts-rule.result ≡ get_or ps n (plain []) =
    ap parts_meant c.index-parts-rule.is
    ∙ sym (get_or-map parts_meant c.args.parts.now n c.index-parts-rule.result (plain []) within) in
    let Q = IsOfParts (rule_info_at k.grammar n) (get_or ps n (plain [])) in
    let came : Comes c.args.classes c.loop-rule.lists c.add_rule.new.lists Q =
    subst (λ (i : RuleInfo). Comes c.args.classes c.loop-rule.lists c.add_rule.new.lists (IsOfParts i (get_or ps n (plain []))))
    c.rule.ensures.info
    (subst (λ (p : Parts). Comes c.args.classes c.loop-rule.lists c.add_rule.new.lists (IsOfParts c.rule.result p)) part
    c.in_ok-add_rule.ensures.comes) in
    comes_both c.args.classes c.args.lists.now c.loop-rule.lists c.add_rule.new.lists (IsOfRules k ps n) Q (IsOfRules k ps (n + 1))
    c.loop-rule.invariant came (rules_split k ps n) (rules_before k ps n) (rules_last k ps n)

pub returns : goal.returns
returns c =
    let past = c.loop-rule-test.false in
    let within = c.loop-rule.auto.rule-end in
    let count = c.rule_count-rule-end.ensures.count in
    let all : c.loop-rule.rule ≡ length (all_rules c.args.checked.now.grammar) = omega (arith, past, within, count) in
    record {
      comes =
          subst (λ n. Comes c.args.classes c.args.lists.now c.loop-rule.lists (IsOfRules c.args.checked.now (map parts_meant c.args.parts.now) n))
          all c.loop-rule.invariant;
    }
