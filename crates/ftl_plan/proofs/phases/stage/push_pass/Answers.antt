use Rattle.std.proofs.Common.{◌<◌, ◌∷◌, ◌++◌, [], List, length, ap, sym, ◌∙◌, arith}
use Rattle.std.proofs.lemmas.List.{append_assoc}
use Rattle.ftl_cursors.specs.items.RowsCut.{is_whole_in}
use Rattle.ftl_cursors.specs.items.StageItems.{tops_of, tree_in}
use Rattle.ftl_schedule.specs.stages.Stages.{kind_of}
use Rattle.ftl_cells.specs.declared.work_phases.phase.Phase.{Phase}
use Rattle.ftl_plan.specs.phases.StagePhases.{grammar_in, item_phase}
use Rattle.ftl_plan.proofs.phases.Pushed.{begins_at, pushed, pushed_all, pushed_more}
use Rattle.ftl_plan.proofs.phases.stage.push_pass.Goals as goal

pub phase_of-phase-requires-clause-node : goal.phase_of-phase-requires-clause-node
phase_of-phase-requires-clause-node c =
    let rows = c.args.rows.now in
    let known : c.loop-item.item < length (tops_of rows c.args.kind) =
    (let test = c.loop-item-test.true in let count = c.count-item-end.ensures.count in omega (arith, test, count)) in
    (begins_at (grammar_in rows) (tree_in rows) c.node_count-nodes.ensures.is_tree (is_whole_in rows) (kind_of c.args.kind)
    c.loop-item.item c.first-node.result known c.first-node.ensures.first).known

pub node_count-requires : goal.node_count-requires
node_count-requires c =
    let rows = c.args.rows.now in
    let known : c.loop-item.item < length (tops_of rows c.args.kind) =
    (let test = c.loop-item-test.true in let count = c.count-item-end.ensures.count in omega (arith, test, count)) in
    record {
      node =
          (begins_at (grammar_in rows) (tree_in rows) c.node_count-nodes.ensures.is_tree (is_whole_in rows)
          (kind_of c.args.kind) c.loop-item.item c.first-node.result known c.first-node.ensures.first).known;
    }

pub loop-item-preserved : goal.loop-item-preserved
loop-item-preserved c =
    let rows = c.args.rows.now in
    let g = grammar_in rows in
    let t = tree_in rows in
    let kind = kind_of c.args.kind in
    let i = c.loop-item.item in
    let known : i < length (tops_of rows c.args.kind) =
    (let test = c.loop-item-test.true in let count = c.count-item-end.ensures.count in omega (arith, test, count)) in
    let at =
    begins_at g t c.node_count-nodes.ensures.is_tree (is_whole_in rows) kind i c.first-node.result known
    c.first-node.ensures.first in
    let phase =
    c.phase_of-phase.ensures.phase ∙ ap (item_phase g (is_whole_in rows) t c.args.size kind) at.node_is in
    c.in_ok-push.ensures.items
    ∙ ap (λ (ts : List Phase). ts ++ c.phase_of-phase.result ∷ []) c.loop-item.invariant
    ∙ append_assoc c.args.phases.now.items (pushed g (is_whole_in rows) t c.args.size kind i) (c.phase_of-phase.result ∷ [])
    ∙ ap (λ (ts : List Phase). c.args.phases.now.items ++ ts)
    (sym (pushed_more g (is_whole_in rows) t c.args.size kind i c.phase_of-phase.result known phase))

pub returns : goal.returns
returns c =
    let rows = c.args.rows.now in
    let test = c.loop-item-test.false in
    let count = c.count-item-end.ensures.count in
    record {
      phases =
          c.loop-item.invariant
          ∙ ap (λ (ts : List Phase). c.args.phases.now.items ++ ts)
          (pushed_all (grammar_in rows) (is_whole_in rows) (tree_in rows) c.args.size (kind_of c.args.kind) c.loop-item.item
          (omega (arith, test, count)));
    }
