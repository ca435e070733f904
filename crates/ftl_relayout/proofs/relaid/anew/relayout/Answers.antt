use Rattle.ftl_relayout.proofs.relaid.Relays.{are_edits, if_ok, relaid_given, runs_given, tree_given}
use Rattle.ftl_relayout.proofs.relaid.anew.relayout.Goals as goal

pub relayout-requires-clause-edits : goal.relayout-requires-clause-edits
relayout-requires-clause-edits c =
    are_edits c.args.tree.now c.node_count-nodes.ensures.is_tree c.args.edits.now c.requires.edits

pub returns-clause-tree : goal.returns-clause-tree
returns-clause-tree c =
    if_ok c.relayout.result
    (λ touched x. tree_given c.args.checked.now c.args.tree.now c.relayout.new.tree c.args.edits.now c.args.values.now
    c.relayout.new.values c.args.runner.now c.relayout.new.runner touched c.requires.grammar x)
    c.relayout.ensures.relaid

pub returns-clause-relaid : goal.returns-clause-relaid
returns-clause-relaid c =
    if_ok c.relayout.result
    (λ touched x. relaid_given c.args.checked.now c.args.tree.now c.relayout.new.tree c.args.edits.now c.args.values.now
    c.relayout.new.values c.args.runner.now c.relayout.new.runner touched c.requires.grammar x)
    c.relayout.ensures.relaid

pub returns-clause-runs : goal.returns-clause-runs
returns-clause-runs c =
    if_ok c.relayout.result
    (λ touched x. runs_given c.args.checked.now c.args.tree.now c.relayout.new.tree c.args.edits.now c.args.values.now
    c.relayout.new.values c.args.runner.now c.relayout.new.runner touched c.requires.grammar x)
    c.relayout.ensures.relaid

pub returns-clause-grows : goal.returns-clause-grows
returns-clause-grows c = if_ok c.relayout.result (λ touched x. x.grows) c.relayout.ensures.relaid

pub returns-clause-programs : goal.returns-clause-programs
returns-clause-programs c = if_ok c.relayout.result (λ touched x. x.programs) c.relayout.ensures.relaid
