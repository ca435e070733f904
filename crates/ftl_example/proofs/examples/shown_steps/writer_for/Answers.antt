use Rattle.ftl_example.specs.pairs.PairMeant.{pair_meant}
use Rattle.ftl_example.proofs.examples.OptionHas.{some_has}
use Rattle.ftl_example.proofs.examples.Written.{found_by_cell, none_by_cell, none_seen, read_there}
use Rattle.ftl_example.proofs.examples.shown_steps.writer_for.Goals as goal

pub read_cell-requires-clause-there : goal.read_cell-requires-clause-there
read_cell-requires-clause-there c =
    read_there c.args.tree.now c.requires.sound c.node_count-nodes.ensures.is_tree (pair_meant c.args.pair)
    c.requires.pair.0.1 c.args.reader c.requires.reader c.requires.rule c.args.kid c.requires.hand

pub returns-in-Some-clause-found : goal.returns-in-Some-clause-found
returns-in-Some-clause-found c =
    some_has c.filling_step.result c.filling_step.ensures.found
    (λ w.
    found_by_cell c.args.tree.now c.requires.sound c.node_count-nodes.ensures.is_tree (pair_meant c.args.pair)
    c.requires.pair.0.1 c.args.reader c.requires.reader c.requires.rule c.args.steps.now c.requires.steps c.args.kid
    c.requires.hand c.in-Some.cell c.in-Some.ensures.cell w)

pub returns-in-Some-clause-none : goal.returns-in-Some-clause-none
returns-in-Some-clause-none c = λ e.
    none_by_cell c.args.tree.now c.requires.sound c.node_count-nodes.ensures.is_tree (pair_meant c.args.pair)
    c.requires.pair.0.1 c.args.reader c.requires.reader c.requires.rule c.args.steps.now c.requires.steps c.args.kid
    c.requires.hand c.in-Some.cell c.in-Some.ensures.cell (c.filling_step.ensures.none e)

pub returns-in-None-clause-none : goal.returns-in-None-clause-none
returns-in-None-clause-none c = λ e.
    none_seen c.args.tree.now c.requires.sound c.node_count-nodes.ensures.is_tree (pair_meant c.args.pair)
    c.requires.pair.0.1 c.args.reader c.requires.reader c.requires.rule c.args.steps.now c.requires.steps c.args.kid
    c.requires.hand c.in-None.ensures.cell
