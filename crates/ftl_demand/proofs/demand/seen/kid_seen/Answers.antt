-- The kid has its number.
use Rattle.std.proofs.Common.{◌<◌, ap, sym, subst, ◌∙◌}
use Rattle.ftl_deps.specs.reads.Meant.{meant}
use Rattle.ftl_model.specs.layout.Path.{class_at, node_at}
use Rattle.ftl_model.specs.layout.Solves.{instance_of}
use Rattle.ftl_model.specs.layout.Tree.{size}
use Rattle.ftl_order.specs.orders.Lawful.{OfClass}
use Rattle.ftl_step_value.proofs.cells.KidCells.{kid_there}
use Rattle.ftl_demand.proofs.demand.seen.kid_seen.Goals as goal

pub kid-requires-clause-at : goal.kid-requires-clause-at
kid-requires-clause-at c =
    let t = c.args.tree.now in
    (kid_there (meant t.checked) t.tree c.node_count-nodes.ensures.is_tree c.args.node c.args.child c.args.number
    c.requires.node c.requires.there.0).at_child

pub kid-requires-clause-k : goal.kid-requires-clause-k
kid-requires-clause-k c =
    let t = c.args.tree.now in
    (kid_there (meant t.checked) t.tree c.node_count-nodes.ensures.is_tree c.args.node c.args.child c.args.number
    c.requires.node c.requires.there.0).counted

pub returns-clause-seen : goal.returns-clause-seen
returns-clause-seen c =
    let t = c.args.tree.now in
    ap (λ p. instance_of p c.args.attr)
    (ap (node_at t.tree) c.kid.ensures.kid
    ∙ (kid_there (meant t.checked) t.tree c.node_count-nodes.ensures.is_tree c.args.node c.args.child c.args.number
    c.requires.node c.requires.there.0).stands)

pub returns-clause-known : goal.returns-clause-known
returns-clause-known c =
    let t = c.args.tree.now in
    let there = kid_there (meant t.checked) t.tree c.node_count-nodes.ensures.is_tree c.args.node c.args.child
    c.args.number c.requires.node c.requires.there.0 in
    let is = c.kid.ensures.kid in
    record {
      node = subst (λ n. n < size t.tree) (sym is) there.known;
      attr =
          subst (λ p. OfClass (meant t.checked) (class_at t.tree p) c.args.attr)
          (sym (ap (node_at t.tree) is ∙ there.stands)) c.requires.there.1;
    }
