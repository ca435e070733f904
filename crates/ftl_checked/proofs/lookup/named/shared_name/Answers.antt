use Rattle.std.proofs.Common.{arith, []}
use Rattle.std.proofs.lemmas.Grind.{common_steps}
use Rattle.ftl_grammar.specs.declared.syntax.rules.AttrKind.TheVariants as kinds
use Rattle.ftl_grammar.specs.syntax.Trees as trees
use Rattle.ftl_checked.proofs.lookup.Standing.{shared_is_in}
use Rattle.ftl_checked.proofs.lookup.named.shared_name.Goals as goal

pub interface_table-requires-clause-within : goal.interface_table-requires-clause-within
interface_table-requires-clause-within c = (shared_is_in c.args.grammar.now (trees.attr_decl kinds.Inh []) c.args.attr c.args.owner c.requires.within c.requires.owner c.requires.shared).owner_within

pub interface-requires : goal.interface-requires
interface-requires c = record {
  within = (shared_is_in c.args.grammar.now (trees.attr_decl kinds.Inh []) c.args.attr c.args.owner c.requires.within c.requires.owner c.requires.shared).owner_within;
}

pub overflow_sub-result : goal.overflow_sub-result
overflow_sub-result c =
    let at = shared_is_in c.args.grammar.now (trees.attr_decl kinds.Inh []) c.args.attr c.args.owner c.requires.within c.requires.owner c.requires.shared in
    let after = at.after in
    grind (arith, common_steps)

pub bounds-attrs-attr : goal.bounds-attrs-attr
bounds-attrs-attr c =
    let at = shared_is_in c.args.grammar.now (trees.attr_decl kinds.Inh []) c.args.attr c.args.owner c.requires.within c.requires.owner c.requires.shared in
    let after = at.after in
    let before = at.before in
    grind (arith, common_steps)

pub returns : goal.returns
returns c =
    let at = shared_is_in c.args.grammar.now c.index-attrs-attr.result c.args.attr c.args.owner c.requires.within c.requires.owner c.requires.shared in
    let is = at.is in
    grind (arith, common_steps)
