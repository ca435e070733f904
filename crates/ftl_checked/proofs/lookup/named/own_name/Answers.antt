use Rattle.std.proofs.Common.{arith, []}
use Rattle.std.proofs.lemmas.Grind.{common_steps}
use Rattle.ftl_grammar.specs.declared.syntax.rules.AttrKind.TheVariants as kinds
use Rattle.ftl_grammar.specs.syntax.Trees as trees
use Rattle.ftl_checked.proofs.lookup.Standing.{own_is_in}
use Rattle.ftl_checked.proofs.lookup.named.own_name.Goals as goal

pub class_table-requires-clause-within : goal.class_table-requires-clause-within
class_table-requires-clause-within c = (own_is_in c.args.grammar.now (trees.attr_decl kinds.Inh []) c.args.attr c.args.owner c.requires.within c.requires.owner c.requires.own).owner_within

pub class-requires : goal.class-requires
class-requires c = record {
  within = (own_is_in c.args.grammar.now (trees.attr_decl kinds.Inh []) c.args.attr c.args.owner c.requires.within c.requires.owner c.requires.own).owner_within;
}

pub overflow_sub-result : goal.overflow_sub-result
overflow_sub-result c =
    let at = own_is_in c.args.grammar.now (trees.attr_decl kinds.Inh []) c.args.attr c.args.owner c.requires.within c.requires.owner c.requires.own in
    let after = at.after in
    grind (arith, common_steps)

pub bounds-attrs-attr : goal.bounds-attrs-attr
bounds-attrs-attr c =
    let at = own_is_in c.args.grammar.now (trees.attr_decl kinds.Inh []) c.args.attr c.args.owner c.requires.within c.requires.owner c.requires.own in
    let after = at.after in
    let before = at.before in
    grind (arith, common_steps)

pub returns : goal.returns
returns c =
    let at = own_is_in c.args.grammar.now c.index-attrs-attr.result c.args.attr c.args.owner c.requires.within c.requires.owner c.requires.own in
    let is = at.is in
    grind (arith, common_steps)
