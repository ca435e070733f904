-- The cell is that of an input of the tree.
use Rattle.std.proofs.Common.{◌<◌, ap, sym, ◌∙◌, subst, arith, length, length-set, set}
use Rattle.std.specs.List.{All}
use Rattle.std.proofs.lemmas.List.{get_or_read}
use Rattle.std.proofs.lemmas.List.Elements.{All-push}
use Rattle.ftl_deps.specs.reads.Meant.{meant}
use Rattle.ftl_model.proofs.lists.Elements.{in_filter}
use Rattle.ftl_model.specs.layout.AttributeGrammar.{attributes_of, is_input}
use Rattle.ftl_model.specs.layout.Path.{class_at, node_at}
use Rattle.ftl_model.specs.layout.Values.{overflow}
use Rattle.ftl_order.proofs.orders.Instances.{number_within}
use Rattle.ftl_tree.proofs.rows.Access.{has_at}
use Rattle.ftl_relayout.specs.declared.queue.trail.Before.{Before}
use Rattle.ftl_relayout.specs.queue.Trails.{undone}
use Rattle.ftl_relayout.proofs.queue.Trails.{undone_written}
use Rattle.ftl_relayout.proofs.edits.write.write_input.Goals as goal

pub instance-cell-requires-clause-attr : goal.instance-cell-requires-clause-attr
instance-cell-requires-clause-attr c =
    let t = c.args.tree.now in
    let g = meant t.checked in
    (in_filter (λ b. is_input (g.sort b)) (attributes_of g (class_at t.tree (node_at t.tree c.args.edit.node)))
    c.args.edit.attr c.requires.edit.0.input).0

pub bounds-values-cell : goal.bounds-values-cell
bounds-values-cell c =
    let t = c.args.tree.now in
    let g = meant t.checked in
    let w =
    number_within g t.tree (node_at t.tree c.args.edit.node) c.args.edit.attr
    (has_at g t.tree c.args.edit.node c.requires.edit.0.is_tree c.requires.edit.0.known)
    (in_filter (λ b. is_input (g.sort b)) (attributes_of g (class_at t.tree (node_at t.tree c.args.edit.node)))
    c.args.edit.attr c.requires.edit.0.input).0 in
    let count = c.requires.count in
    let is = c.instance-cell.ensures.instance in
    omega (arith, w, count, is)

pub bounds-values-cell-2 : goal.bounds-values-cell-2
bounds-values-cell-2 c =
    let t = c.args.tree.now in
    let g = meant t.checked in
    let w =
    number_within g t.tree (node_at t.tree c.args.edit.node) c.args.edit.attr
    (has_at g t.tree c.args.edit.node c.requires.edit.0.is_tree c.requires.edit.0.known)
    (in_filter (λ b. is_input (g.sort b)) (attributes_of g (class_at t.tree (node_at t.tree c.args.edit.node)))
    c.args.edit.attr c.requires.edit.0.input).0 in
    let count = c.requires.count in
    let is = c.instance-cell.ensures.instance in
    omega (arith, w, count, is)

pub returns-clause-undone : goal.returns-clause-undone
returns-clause-undone c =
    let t = c.args.tree.now in
    let g = meant t.checked in
    let vs = c.args.values.now in
    let b : Before = record { cell = c.instance-cell.result; value = c.index-values-cell.result } in
    let w =
    number_within g t.tree (node_at t.tree c.args.edit.node) c.args.edit.attr
    (has_at g t.tree c.args.edit.node c.requires.edit.0.is_tree c.requires.edit.0.known)
    (in_filter (λ b. is_input (g.sort b)) (attributes_of g (class_at t.tree (node_at t.tree c.args.edit.node)))
    c.args.edit.attr c.requires.edit.0.input).0 in
    let count = c.requires.count in
    let here = c.instance-cell.ensures.instance in
    let is = get_or_read vs c.instance-cell.result c.index-values-cell.result (omega (arith, w, count, here))
    c.index-values-cell.is overflow in
    ap (λ xs. undone xs (set vs b.cell c.num.result)) c.in_ok-push.ensures.items
    ∙ undone_written c.args.trail.now.items b vs c.num.result overflow is

pub returns-clause-within : goal.returns-clause-within
returns-clause-within c =
    let t = c.args.tree.now in
    let g = meant t.checked in
    let vs = c.args.values.now in
    let b : Before = record { cell = c.instance-cell.result; value = c.index-values-cell.result } in
    let w =
    number_within g t.tree (node_at t.tree c.args.edit.node) c.args.edit.attr
    (has_at g t.tree c.args.edit.node c.requires.edit.0.is_tree c.requires.edit.0.known)
    (in_filter (λ b. is_input (g.sort b)) (attributes_of g (class_at t.tree (node_at t.tree c.args.edit.node)))
    c.args.edit.attr c.requires.edit.0.input).0 in
    let count = c.requires.count in
    let here = c.instance-cell.ensures.instance in
    let long = length-set vs b.cell c.num.result in
    subst (All (λ (x : Before). x.cell < length (set vs b.cell c.num.result))) (sym c.in_ok-push.ensures.items)
    (All-push (λ (x : Before). x.cell < length (set vs b.cell c.num.result)) c.args.trail.now.items b
    (λ k d h. let within = c.requires.within k d h in omega (arith, within, long))
    (omega (arith, w, count, here, long)))
