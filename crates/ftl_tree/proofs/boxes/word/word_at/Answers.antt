use Rattle.std.proofs.Common.{arith}
use Rattle.std.proofs.lemmas.Grind.{common_steps}
use Rattle.ftl_tree.proofs.boxes.Lines.{of_class, word_is, word_within}
use Rattle.ftl_tree.proofs.boxes.word.word_at.Goals as goal

pub instance-requires-clause-attr : goal.instance-requires-clause-attr
instance-requires-clause-attr c =
    of_class c.args.tree.now c.args.node c.requires.words.is_tree c.requires.node c.args.attr c.requires.attr

pub bounds-words-instance : goal.bounds-words-instance
bounds-words-instance c =
    let within = word_within c.args.tree.now c.args.node c.requires.words.is_tree c.requires.node c.args.words.now
    c.args.attr c.requires.words.count c.requires.attr in
    grind (arith, common_steps)

pub returns : goal.returns
returns c =
    let is = word_is c.args.tree.now c.args.node c.requires.words.is_tree c.requires.node c.args.words.now
    c.args.attr 0 c.requires.words.count c.requires.attr in
    grind (arith, common_steps)
