use Rattle.std.proofs.Common.{◌≡◌, ◌<◌, ◌-◌, ◌∙◌, ap, sym, arith, List, [], get_or, length}
use Rattle.std.proofs.lemmas.Grind.{common_steps}
use Rattle.std.proofs.lemmas.List.{get_or_read}
use Rattle.ftl_checked.proofs.lookup.Standing.{rule_is_of}
use Rattle.ftl_grammar.specs.declared.syntax.rules.Class.{Class}
use Rattle.ftl_grammar.specs.declared.syntax.rules.Rule.{Rule}
use Rattle.ftl_meaning.specs.declared.faults.info.RuleInfo.{RuleInfo}
use Rattle.ftl_meaning.specs.faults.Numbering.{class_at}
use Rattle.ftl_meaning.specs.faults.Worked.{num, self_is}
use Rattle.maugzeris.proofs.rules.Standing.{before as before_class, no_class, rule_written}
use Rattle.maugzeris.specs.rules.Spoken.{rule_text}
use Rattle.maugzeris.proofs.rules.texts.written_rule.Goals as goal

pub rules_before-requires-clause-within : goal.rules_before-requires-clause-within
rules_before-requires-clause-within c =
    let at = rule_is_of c.args.checked.now.grammar (self_is [] (num 0)) c.args.rule c.rule-class.result.class
    c.requires.rule (ap (λ (i : RuleInfo). i.class) c.rule-class.ensures.info) in
    let within = at.class_within in
    grind (arith, common_steps)

pub overflow_sub-place : goal.overflow_sub-place
overflow_sub-place c =
    let at = rule_is_of c.args.checked.now.grammar (self_is [] (num 0)) c.args.rule c.rule-class.result.class
    c.requires.rule (ap (λ (i : RuleInfo). i.class) c.rule-class.ensures.info) in
    let after = at.after in
    grind (arith, common_steps)

pub bounds-classes-class : goal.bounds-classes-class
bounds-classes-class c =
    let at = rule_is_of c.args.checked.now.grammar (self_is [] (num 0)) c.args.rule c.rule-class.result.class
    c.requires.rule (ap (λ (i : RuleInfo). i.class) c.rule-class.ensures.info) in
    let within = at.class_within in
    grind (arith, common_steps)

pub bounds-as_slice-place : goal.bounds-as_slice-place
bounds-as_slice-place c =
    let at = rule_is_of c.args.checked.now.grammar (self_is [] (num 0)) c.args.rule c.rule-class.result.class
    c.requires.rule (ap (λ (i : RuleInfo). i.class) c.rule-class.ensures.info) in
    let after = at.after in
    let before = at.before in
    grind (arith, common_steps)

pub returns : goal.returns
returns c =
    let g = c.args.checked.now.grammar in
    let k = c.rule-class.result.class in
    let at = rule_is_of g (self_is [] (num 0)) c.args.rule k c.requires.rule
    (ap (λ (i : RuleInfo). i.class) c.rule-class.ensures.info) in
    let class_within = at.class_within in
    let after = at.after in
    let before = at.before in
    let x = c.index-as_slice-place.result in
    let classes : c.as_slice-classes.result.now ≡ g.classes = grind (arith, common_steps) in
    let below : k < length c.as_slice-classes.result.now = grind (arith, common_steps) in
    let place : c.args.rule - c.rules_before.result ≡ c.args.rule - before_class g k = grind (arith, common_steps) in
    let inside : c.args.rule - c.rules_before.result < length c.as_slice.result.now = grind (arith, common_steps) in
    let rules : c.as_slice.result.now ≡ (class_at g k).rules =
    c.as_slice.ensures
    ∙ ap (λ (y : Class). y.rules)
    (sym c.index-classes-class.is
    ∙ get_or_read c.as_slice-classes.result.now k c.index-classes-class.result below c.index-classes-class.is no_class
    ∙ ap (λ (ys : List Class). get_or ys k no_class) classes) in
    record {
      rule =
          ap rule_text
          (get_or_read c.as_slice.result.now (c.args.rule - c.rules_before.result) x inside c.index-as_slice-place.is x
          ∙ ap (λ (ys : List Rule). get_or ys (c.args.rule - c.rules_before.result) x) rules
          ∙ ap (λ n. get_or (class_at g k).rules n x) place)
          ∙ rule_written g x c.args.rule k c.requires.rule (ap (λ (i : RuleInfo). i.class) c.rule-class.ensures.info);
    }
