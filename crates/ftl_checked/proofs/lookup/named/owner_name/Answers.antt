use Rattle.std.proofs.Common.{arith, [], ◌≡◌, true, false}
use Rattle.std.proofs.lemmas.Grind.{common_steps}
use Rattle.ftl_grammar.specs.declared.syntax.rules.AttrKind.TheVariants as kinds
use Rattle.ftl_grammar.specs.syntax.Trees as trees
use Rattle.ftl_meaning.specs.faults.Checked.{attribute_at}
use Rattle.ftl_checked.proofs.lookup.Standing.{own_is_in, shared_is_in}
use Rattle.ftl_checked.proofs.lookup.named.owner_name.Goals as goal

pub class-requires : goal.class-requires
class-requires c =
    let of_class : (attribute_at c.args.grammar.now c.args.attr).of_class ≡ true = grind (arith, common_steps) in
    record {
      within =
          (own_is_in c.args.grammar.now (trees.attr_decl kinds.Inh []) c.args.attr c.args.info.owner c.requires.within (grind (arith, common_steps)) of_class).owner_within;
    }

pub interface-requires : goal.interface-requires
interface-requires c =
    let of_class : (attribute_at c.args.grammar.now c.args.attr).of_class ≡ false = grind (arith, common_steps) in
    record {
      within =
          (shared_is_in c.args.grammar.now (trees.attr_decl kinds.Inh []) c.args.attr c.args.info.owner c.requires.within (grind (arith, common_steps)) of_class).owner_within;
    }
