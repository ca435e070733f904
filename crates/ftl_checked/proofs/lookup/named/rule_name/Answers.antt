use Rattle.std.proofs.Common.{arith, []}
use Rattle.std.proofs.lemmas.Grind.{common_steps}
use Rattle.ftl_meaning.specs.faults.Worked.{num, self_is}
use Rattle.ftl_checked.proofs.lookup.Standing.{rule_is_of}
use Rattle.ftl_checked.proofs.lookup.named.rule_name.Goals as goal

pub rules_before-requires-clause-within : goal.rules_before-requires-clause-within
rules_before-requires-clause-within c =
    let class = (rule_is_of c.args.grammar.now (self_is [] (num 0)) c.args.rule c.args.number c.requires.within c.requires.class).class_within in
    grind (arith, common_steps)

pub overflow_sub-place : goal.overflow_sub-place
overflow_sub-place c =
    let after = (rule_is_of c.args.grammar.now (self_is [] (num 0)) c.args.rule c.args.number c.requires.within c.requires.class).after in
    grind (arith, common_steps)

pub class-requires : goal.class-requires
class-requires c = record {
  within =
      (rule_is_of c.args.grammar.now (self_is [] (num 0)) c.args.rule c.args.number c.requires.within c.requires.class).class_within;
}

pub bounds-as_slice-place : goal.bounds-as_slice-place
bounds-as_slice-place c =
    let at = rule_is_of c.args.grammar.now (self_is [] (num 0)) c.args.rule c.args.number c.requires.within c.requires.class in
    let after = at.after in
    let before = at.before in
    grind (arith, common_steps)

pub name_of-requires : goal.name_of-requires
name_of-requires c = record {
  within =
      (rule_is_of c.args.grammar.now (self_is [] (num 0)) c.args.rule c.args.number c.requires.within c.requires.class).class_within;
}

pub returns : goal.returns
returns c =
    let named = (rule_is_of c.args.grammar.now c.index-as_slice-place.result c.args.rule c.args.number c.requires.within c.requires.class).named in
    grind (arith, common_steps)
