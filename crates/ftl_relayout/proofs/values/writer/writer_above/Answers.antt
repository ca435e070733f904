-- The attribute is inherited, so its node has a parent, whose class has the rule.
use Rattle.std.proofs.Common.{◌≡◌, ◌<◌, ap, ◌∙◌, sym, subst}
use Rattle.ftl_deps.specs.reads.Meant.{meant}
use Rattle.ftl_step_value.proofs.limits.reads.Entries.{parent_is, there}
use Rattle.ftl_step_value.specs.limits.reads.ReadTables.{class_in}
use Rattle.ftl_model.proofs.layout.Fits.{kid_stands}
use Rattle.ftl_model.specs.layout.Path.{Has, child_at, class_at, down, kid_at, node_at}
use Rattle.ftl_model.specs.layout.Solves.{instance_of}
use Rattle.ftl_model.specs.layout.Tree.{below_of}
use Rattle.ftl_model.specs.layout.Path.{at}
use Rattle.ftl_order.proofs.orders.Kids.{kid_counted}
use Rattle.ftl_order.specs.orders.Lawful.{OfClass}
use Rattle.ftl_relayout.proofs.values.Writers.{inherited_here, kid_writer, parent_there, rule_above}
use Rattle.ftl_relayout.proofs.values.writer.writer_above.Goals as goal

pub unwrap-parent-requires : goal.unwrap-parent-requires
unwrap-parent-requires c =
    let t = c.args.site.now.tree.now in
    let g = meant t.checked in
    let law = c.requires.site.sound.law in
    let fits = c.node_count-nodes.ensures.is_tree in
    let p = node_at t.tree c.args.node in
    let here = there g law t.tree fits c.args.node c.requires.node in
    parent_there g law t.tree fits p c.args.attr c.parent.result here c.requires.attr
    (inherited_here g law t.tree fits p c.args.attr here c.requires.attr c.requires.none
    c.requires.computed) c.parent.ensures.parent

pub kid_rule-requires-clause-node : goal.kid_rule-requires-clause-node
kid_rule-requires-clause-node c =
    let t = c.args.site.now.tree.now in
    let g = meant t.checked in
    let law = c.requires.site.sound.law in
    let fits = c.node_count-nodes.ensures.is_tree in
    (parent_is g law t.tree fits c.args.node c.unwrap-parent.result c.requires.node
    (sym c.parent.ensures.parent ∙ c.unwrap-parent.ensures)).known

pub kid_rule-requires-clause-child : goal.kid_rule-requires-clause-child
kid_rule-requires-clause-child c =
    let t = c.args.site.now.tree.now in
    let g = meant t.checked in
    let law = c.requires.site.sound.law in
    let fits = c.node_count-nodes.ensures.is_tree in
    let up = parent_is g law t.tree fits c.args.node c.unwrap-parent.result c.requires.node
    (sym c.parent.ensures.parent ∙ c.unwrap-parent.ensures) in
    let p = node_at t.tree c.args.node in
    let here = subst (Has t.tree) up.node_is (there g law t.tree fits c.args.node c.requires.node) in
    subst (λ n. n < g.child_count (class_in t c.unwrap-parent.result)) (sym c.place-place.ensures.child)
    (kid_stands g t.tree (child_at p) (kid_at p) (node_at t.tree c.unwrap-parent.result) fits here).declared

pub unwrap-rule-requires : goal.unwrap-rule-requires
unwrap-rule-requires c =
    let t = c.args.site.now.tree.now in
    let g = meant t.checked in
    let law = c.requires.site.sound.law in
    let fits = c.node_count-nodes.ensures.is_tree in
    let up = parent_is g law t.tree fits c.args.node c.unwrap-parent.result c.requires.node
    (sym c.parent.ensures.parent ∙ c.unwrap-parent.ensures) in
    let child = c.place-place.result.child in
    let kid = c.place-place.result.kid in
    let above = node_at t.tree c.unwrap-parent.result in
    let p = node_at t.tree c.args.node in
    let is : p ≡ down child kid above =
    up.node_is
    ∙ ap (λ n. down n (kid_at p) above) (sym c.place-place.ensures.child)
    ∙ ap (λ n. down child n above) (sym c.place-place.ensures.kid) in
    let here = there g law t.tree fits c.args.node c.requires.node in
    let a = c.args.attr in
    rule_above g law t.tree fits child kid a above c.kid_rule.result (subst (Has t.tree) is here)
    (subst (λ q. OfClass g (class_at t.tree q) a) is c.requires.attr)
    (inherited_here g law t.tree fits p a here c.requires.attr c.requires.none c.requires.computed)
    c.kid_rule.ensures.rule

pub returns : goal.returns
returns c =
    let t = c.args.site.now.tree.now in
    let g = meant t.checked in
    let law = c.requires.site.sound.law in
    let fits = c.node_count-nodes.ensures.is_tree in
    let up = parent_is g law t.tree fits c.args.node c.unwrap-parent.result c.requires.node
    (sym c.parent.ensures.parent ∙ c.unwrap-parent.ensures) in
    let child = c.place-place.result.child in
    let kid = c.place-place.result.kid in
    let above = node_at t.tree c.unwrap-parent.result in
    let p = node_at t.tree c.args.node in
    let is : p ≡ down child kid above =
    up.node_is
    ∙ ap (λ n. down n (kid_at p) above) (sym c.place-place.ensures.child)
    ∙ ap (λ n. down child n above) (sym c.place-place.ensures.kid) in
    let here = there g law t.tree fits c.args.node c.requires.node in
    let writes = kid_writer g law t.tree fits c.unwrap-parent.result child kid c.args.attr c.unwrap-rule.result
    up.known (kid_counted child kid (below_of (at t.tree above)) (subst (Has t.tree) is here))
    (sym c.kid_rule.ensures.rule ∙ c.unwrap-rule.ensures) in
    record { step = writes.step; target = writes.target ∙ ap (λ q. instance_of q c.args.attr) (sym is) }
