use Rattle.std.proofs.lemmas.Result.{on_err_weaker}
use Rattle.ftl_relayout.proofs.relaid.Relays.{are_edits, if_ok}
use Rattle.maugzeris.proofs.pages.Written.{unwritten_values, written_values}
use Rattle.maugzeris.proofs.pages.editing.relaid.Goals as goal

pub relayout-requires-clause-edits : goal.relayout-requires-clause-edits
relayout-requires-clause-edits c =
    are_edits c.args.tree.now c.node_count-nodes.ensures.is_tree c.args.edits.now c.requires.edits

pub returns-clause-relaid : goal.returns-clause-relaid
returns-clause-relaid c =
    if_ok c.relayout.result
    (λ touched x. written_values c.args.tree.now c.relayout.new.tree c.args.edits.now c.args.values.now.len
    c.args.values.now.items c.as_mut_slice-cells.result.now c.relayout.new.values c.args.runner.now
    c.relayout.new.runner touched c.as_mut_slice-cells.ensures.len c.as_mut_slice-cells.ensures.value c.requires.solved x)
    c.relayout.ensures.relaid

pub returns-clause-values_stay : goal.returns-clause-values_stay
returns-clause-values_stay c =
    on_err_weaker c.relayout.result
    (λ stay. unwritten_values c.args.values.now.len c.args.values.now.items c.as_mut_slice-cells.result.now
    c.relayout.new.values c.as_mut_slice-cells.ensures.len c.as_mut_slice-cells.ensures.value stay)
    c.relayout.ensures.values_stay
