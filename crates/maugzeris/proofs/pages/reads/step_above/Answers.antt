use Rattle.maugzeris.proofs.pages.Rules.{root_has_none}
use Rattle.maugzeris.proofs.pages.reads.step_above.Goals as goal

pub returns-in-None : goal.returns-in-None
returns-in-None c = record {
  step =
      root_has_none c.args.page.now c.tree-known.ensures.lawful c.tree-known.ensures.is_tree c.args.node c.args.attr
      c.requires.node c.requires.none c.in-None.ensures.parent;
}
