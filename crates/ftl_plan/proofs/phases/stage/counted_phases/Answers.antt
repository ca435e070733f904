use Rattle.std.proofs.Common.{◌++◌, Bool, List, get_or, ap, sym, ◌∙◌, arith}
use Rattle.std.proofs.lemmas.List.{length-map}
use Rattle.ftl_cursors.specs.items.RowsCut.{is_whole_in}
use Rattle.ftl_cursors.specs.items.StageItems.{cuts_in, tree_of}
use Rattle.ftl_cursors.proofs.items.Starts.{pass_kind}
use Rattle.ftl_deps.specs.reads.Meant.{meant}
use Rattle.ftl_model.specs.layout.Path.{Path}
use Rattle.ftl_order.specs.orders.Schedule.{PassKind}
use Rattle.ftl_schedule.specs.stages.Stages.{kind_of, pass_of}
use Rattle.ftl_tree.specs.trees.CheckedTree.{CheckedTree}
use Rattle.ftl_cells.specs.declared.work_phases.phase.Phase.{Phase}
use Rattle.ftl_plan.specs.phases.StagePhases.{grammar_of_items, phases_of_pass, phases_to}
use Rattle.ftl_plan.proofs.phases.Pushed.{phases_more}
use Rattle.ftl_plan.proofs.phases.stage.counted_phases.Goals as goal

pub overflow_cast-count : goal.overflow_cast-count
overflow_cast-count c =
    let few = c.args.items.fit.few in
    let long = length-map c.args.items.passes.now pass_of in
    omega (arith, few, long)

pub rows_of-rows-requires : goal.rows_of-rows-requires
rows_of-rows-requires c =
    let test = c.loop-pass-test.true in
    record { known = omega (arith, test) }

pub loop-pass-preserved : goal.loop-pass-preserved
loop-pass-preserved c =
    let items = c.args.items in
    let g = grammar_of_items items in
    let t = tree_of items in
    let n = c.loop-pass.pass in
    let kind_of_pass = kind_of (get_or items.passes.now n c.index-items-pass.result).kind in
    let rows = c.rows_of-rows.result.now in
    let cut = c.rows_of-rows.ensures.rows in
    let test = c.loop-pass-test.true in
    let kind = pass_kind items.passes.now n c.index-items-pass.result (omega (arith, test)) in
    c.in_ok-push_pass.ensures.phases
    ∙ ap
    (λ (u : CheckedTree). c.loop-pass.phases.items ++ phases_of_pass (meant u.checked) (is_whole_in rows) u.tree c.args.size
    kind_of_pass) cut.tree
    ∙ ap (λ (w : Path → Bool). c.loop-pass.phases.items ++ phases_of_pass g w t c.args.size kind_of_pass) cut.whole
    ∙ ap (λ (ts : List Phase). ts ++ phases_of_pass g (cuts_in items n).is_whole t c.args.size kind_of_pass)
    c.loop-pass.invariant
    ∙ ap
    (λ (k : PassKind). phases_to g (cuts_in items) t c.args.size n
    ++ phases_of_pass g (cuts_in items n).is_whole t c.args.size k) (sym kind)
    ∙ sym (phases_more g (cuts_in items) t c.args.size n)

pub returns : goal.returns
returns c =
    let items = c.args.items in
    let past = c.loop-pass-test.false in
    let most = c.loop-pass.auto.pass-end in
    let count = length-map items.passes.now pass_of in
    record {
      phases =
          c.loop-pass.invariant
          ∙ ap (phases_to (grammar_of_items items) (cuts_in items) (tree_of items) c.args.size)
          (omega (arith, past, most, count));
    }
