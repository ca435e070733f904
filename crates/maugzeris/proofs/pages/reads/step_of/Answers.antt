use Rattle.maugzeris.proofs.pages.Rules.{own_computes}
use Rattle.maugzeris.proofs.pages.reads.step_of.Goals as goal

pub returns-in-Some : goal.returns-in-Some
returns-in-Some c = record {
  step =
      own_computes c.args.page.now c.tree-known.ensures.lawful c.tree-known.ensures.is_tree c.args.node c.args.attr
      c.requires.node c.in-Some.rule c.in-Some.ensures.rule;
}
