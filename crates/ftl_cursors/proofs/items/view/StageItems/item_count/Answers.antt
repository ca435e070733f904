use Rattle.std.proofs.Common.{length, ap, sym, ◌∙◌, arith}
use Rattle.std.proofs.lemmas.List.{length-map}
use Rattle.ftl_deps.specs.reads.Meant.{meant}
use Rattle.ftl_schedule.specs.stages.Stages.{pass_of}
use Rattle.ftl_cursors.specs.items.StageItems.{cuts_in, passes_in, start_in}
use Rattle.ftl_cursors.proofs.items.Starts.{few_items, length-pass_starts, start_is}
use Rattle.ftl_cursors.proofs.items.view.StageItems.item_count.Goals as goal

pub bounds-self-self : goal.bounds-self-self
bounds-self-self c =
    let s = c.args.self.now in
    let rows = s.rows.now in
    let len = length-pass_starts (length (passes_in s)) (cuts_in s) rows.tree.now.tree s.starts.now s.fit in
    let count = length-map s.passes.now pass_of in
    omega (arith, len, count)

pub returns : goal.returns
returns c =
    let s = c.args.self.now in
    let rows = s.rows.now in
    let t = rows.tree.now in
    let count = length-map s.passes.now pass_of in
    let few = s.fit.few in
    let most =
    few_items (meant t.checked) t.tree c.node_count-nodes.ensures.is_tree
    (let n = c.node_count-nodes.ensures.count in let b = c.node_count-nodes.ensures.bound in omega (arith, n, b))
    (cuts_in s) (length (passes_in s)) few in
    let is =
    start_is (length (passes_in s)) (cuts_in s) t.tree s.starts.now s.fit (length s.passes.now)
    (omega (arith, count)) ∙ ap (start_in s) (sym count) in
    record { count = is; bound = omega (arith, is, most) }
