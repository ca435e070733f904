-- The run of the queue on what the edits touch.
use Rattle.std.proofs.Common.{◌≤◌, ◌+◌, ℕ, sym, subst}
use Rattle.std.specs.Prelude.{IfOk}
use Rattle.std.specs.List.Sorted.{IsNonDecreasing, IsPermutation, IsStrictlyIncreasing}
use Rattle.ftl_model.specs.lists.Lists.{AreDistinct}
use Rattle.ftl_model.specs.layout.Values.{Value}
use Rattle.ftl_schedule.specs.stages.Stages.{stages_of}
use Rattle.ftl_relayout.specs.laws.Edits.{with_edits}
use Rattle.ftl_relayout.specs.laws.Relayout.{IsLaidOut}
use Rattle.ftl_relayout.specs.queue.Nets.{IsKeyOf, IsLawfulNet, Net}
use Rattle.ftl_relayout.specs.queue.Ready.{IsDone, IsReady}
use Rattle.ftl_relayout.specs.queue.Trails.{cells_of, total_cost}
use Rattle.ftl_relayout.specs.readers.Sites.{site_grammar, site_net}
use Rattle.ftl_relayout.proofs.relayouter.Computing.{from_old, if_ok_both, known, laid, laid_sorted, lawful}
use Rattle.ftl_relayout.proofs.relayouter.Sorting.{now_rising, same_cost}
use Rattle.ftl_relayout.proofs.relayouter.touched.compute.Goals as goal

pub run_all-requires-clause-lawful : goal.run_all-requires-clause-lawful
run_all-requires-clause-lawful c =
    let r = c.args.readers.now in
    subst IsLawfulNet (sym c.requires.net)
    (lawful (site_grammar r) c.requires.site.law r.tree.now.tree c.node_count-nodes.ensures.is_tree c.args.edits.now
    c.requires.edits c.args.values.now c.requires.solved (stages_of r.accepted.now.schedule) c.requires.ordered
    c.requires.site.small c.write_inputs.new.values c.in_ok-write_inputs.ensures.written)

pub run_all-requires-clause-keys : goal.run_all-requires-clause-keys
run_all-requires-clause-keys c = λ k h.
    let r = c.args.readers.now in
    let from =
    from_old (site_grammar r) c.requires.site.law r.tree.now.tree c.node_count-nodes.ensures.is_tree c.args.edits.now
    c.requires.edits c.args.values.now c.requires.solved (stages_of r.accepted.now.schedule) c.requires.ordered
    c.requires.site.small c.write_inputs.new.values c.in_ok-write_inputs.ensures.written in
    subst (λ (n : Net). IsKeyOf n k) (sym c.requires.net)
    (known (site_grammar r) c.requires.site.law r.tree.now.tree c.node_count-nodes.ensures.is_tree c.args.edits.now
    c.requires.edits c.args.values.now c.requires.solved (stages_of r.accepted.now.schedule) c.requires.ordered
    c.requires.site.small c.write_inputs.new.values c.in_ok-write_inputs.ensures.written c.add_due.new.waiting.keys
    (c.in_ok-add_due.ensures.due c.args.values.now from) (c.add_due.ensures.only c.args.values.now from) k h)

pub sorted_cells-requires : goal.sorted_cells-requires
sorted_cells-requires c =
    let r = c.args.readers.now in
    let g = site_grammar r in
    let s = stages_of r.accepted.now.schedule in
    let fits = c.node_count-nodes.ensures.is_tree in
    let now = c.write_inputs.new.values in
    let is = c.in_ok-write_inputs.ensures.written in
    let after = c.run_all.new.values in
    let ran = cells_of c.run_all.new.trail.items in
    let from =
    from_old g c.requires.site.law r.tree.now.tree fits c.args.edits.now c.requires.edits c.args.values.now
    c.requires.solved s c.requires.ordered c.requires.site.small now is in
    let gives =
    subst
    (λ (n : Net).
    (old final : ℕ → Value) → IsReady n old final now c.add_due.new.waiting.keys → IsDone n old final after ran)
    c.requires.net c.in_ok-run_all.ensures.done in
    let all =
    laid g c.requires.site.law r.tree.now.tree fits c.args.edits.now c.requires.edits c.args.values.now c.requires.solved s
    c.requires.ordered c.requires.site.small now is c.add_due.new.waiting.keys
    (c.in_ok-add_due.ensures.due c.args.values.now from) (c.add_due.ensures.only c.args.values.now from) after ran gives
    c.run_all.auto.values in
    record { once = subst (λ bs. AreDistinct (cells_of bs)) (sym c.deref.ensures.value) all.touched.once }

pub returns-clause-laid_out : goal.returns-clause-laid_out
returns-clause-laid_out c =
    let r = c.args.readers.now in
    let g = site_grammar r in
    let s = stages_of r.accepted.now.schedule in
    let fits = c.node_count-nodes.ensures.is_tree in
    let now = c.write_inputs.new.values in
    let is = c.in_ok-write_inputs.ensures.written in
    let after = c.run_all.new.values in
    let ran = cells_of c.run_all.new.trail.items in
    let from =
    from_old g c.requires.site.law r.tree.now.tree fits c.args.edits.now c.requires.edits c.args.values.now
    c.requires.solved s c.requires.ordered c.requires.site.small now is in
    let gives =
    subst
    (λ (n : Net).
    (old final : ℕ → Value) → IsReady n old final now c.add_due.new.waiting.keys → IsDone n old final after ran)
    c.requires.net c.in_ok-run_all.ensures.done in
    let all =
    laid g c.requires.site.law r.tree.now.tree fits c.args.edits.now c.requires.edits c.args.values.now c.requires.solved s
    c.requires.ordered c.requires.site.small now is c.add_due.new.waiting.keys
    (c.in_ok-add_due.ensures.due c.args.values.now from) (c.add_due.ensures.only c.args.values.now from) after ran gives
    c.run_all.auto.values in
    let moved =
    subst (λ bs. IfOk c.sorted_cells.result (IsPermutation (cells_of bs))) c.deref.ensures.value
    c.sorted_cells.ensures.cells in
    let u = with_edits g r.tree.now.tree c.args.edits.now in
    if_ok_both (IsPermutation ran) IsNonDecreasing (IsLaidOut g u c.args.values.now after) c.sorted_cells.result
    (λ cells p up. laid_sorted g u c.args.values.now after ran cells p all) moved c.sorted_cells.ensures.sorted

pub returns-clause-rising : goal.returns-clause-rising
returns-clause-rising c =
    let r = c.args.readers.now in
    let g = site_grammar r in
    let s = stages_of r.accepted.now.schedule in
    let fits = c.node_count-nodes.ensures.is_tree in
    let now = c.write_inputs.new.values in
    let is = c.in_ok-write_inputs.ensures.written in
    let after = c.run_all.new.values in
    let ran = cells_of c.run_all.new.trail.items in
    let from =
    from_old g c.requires.site.law r.tree.now.tree fits c.args.edits.now c.requires.edits c.args.values.now
    c.requires.solved s c.requires.ordered c.requires.site.small now is in
    let gives =
    subst
    (λ (n : Net).
    (old final : ℕ → Value) → IsReady n old final now c.add_due.new.waiting.keys → IsDone n old final after ran)
    c.requires.net c.in_ok-run_all.ensures.done in
    let all =
    laid g c.requires.site.law r.tree.now.tree fits c.args.edits.now c.requires.edits c.args.values.now c.requires.solved s
    c.requires.ordered c.requires.site.small now is c.add_due.new.waiting.keys
    (c.in_ok-add_due.ensures.due c.args.values.now from) (c.add_due.ensures.only c.args.values.now from) after ran gives
    c.run_all.auto.values in
    let moved =
    subst (λ bs. IfOk c.sorted_cells.result (IsPermutation (cells_of bs))) c.deref.ensures.value
    c.sorted_cells.ensures.cells in
    if_ok_both (IsPermutation ran) IsNonDecreasing IsStrictlyIncreasing c.sorted_cells.result
    (λ cells p up. now_rising ran cells p up all.touched.once) moved c.sorted_cells.ensures.sorted

pub returns-clause-spent : goal.returns-clause-spent
returns-clause-spent c =
    let cost = (site_net c.args.readers.now).cost in
    let ran = cells_of c.run_all.new.trail.items in
    let spent =
    subst (λ (n : Net). c.run_all.new.rules.runs ≤ c.args.rules.now.runs + total_cost n.cost ran) c.requires.net
    c.run_all.ensures.spent in
    let moved =
    subst (λ bs. IfOk c.sorted_cells.result (IsPermutation (cells_of bs))) c.deref.ensures.value
    c.sorted_cells.ensures.cells in
    if_ok_both (IsPermutation ran) IsNonDecreasing
    (λ cells. c.run_all.new.rules.runs ≤ c.args.rules.now.runs + total_cost cost cells) c.sorted_cells.result
    (λ cells p up.
    subst (λ m. c.run_all.new.rules.runs ≤ c.args.rules.now.runs + m) (same_cost ran cells p cost) spent) moved
    c.sorted_cells.ensures.sorted
