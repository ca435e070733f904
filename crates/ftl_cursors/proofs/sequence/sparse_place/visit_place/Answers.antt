use Rattle.std.proofs.Common.{subst, arith}
use Rattle.ftl_model.specs.layout.Path.{Has, at as tree_at, down}
use Rattle.ftl_model.specs.layout.Tree.{below_of}
use Rattle.ftl_model.proofs.layout.Standing.{number_of-lt}
use Rattle.ftl_order.proofs.orders.Kids.{kid_exists}
use Rattle.ftl_tree.proofs.rows.Access.{size-one}
use Rattle.ftl_cursors.specs.sequence.Places.{grammar_of, node_of, tree_of}
use Rattle.ftl_cursors.specs.sequence.SparsePlaces.{HasNoRulesBelow}
use Rattle.ftl_cursors.proofs.sequence.VisitPassed.{kid_entered, kid_passed}
use Rattle.ftl_cursors.proofs.sequence.sparse_place.visit_place.Goals as goal

pub is_ruleless-requires-clause-node : goal.is_ruleless-requires-clause-node
is_ruleless-requires-clause-node c =
    let x = c.args.tables in
    let t = tree_of x.all in
    let p = node_of x.all c.args.node in
    let there : Has t (down c.args.child c.args.kid p) =
    kid_exists c.args.child c.args.kid (below_of (tree_at t p)) c.requires.kid in
    let first = number_of-lt t (down c.args.child c.args.kid p) there in
    let one = size-one (grammar_of x.all) t c.node_count-nodes.ensures.is_tree in
    omega (arith, first, one, c.kid-number.ensures.kid)

pub returns-then-is_ruleless-clause-place : goal.returns-then-is_ruleless-clause-place
returns-then-is_ruleless-clause-place c =
    let x = c.args.tables in
    kid_passed x c.requires.tables c.node_count-nodes.ensures.is_tree c.args.node c.args.child c.args.kid
    c.kid_place.result c.next_kid-next.result c.requires.kid
    (subst (HasNoRulesBelow x) c.kid-number.ensures.kid (c.is_ruleless.ensures.rules c.if-is_ruleless.true))
    c.next_kid-next.ensures.order c.next_kid-next.ensures.steps c.kid_place.ensures.kid

pub returns-clause-place : goal.returns-clause-place
returns-clause-place c =
    let x = c.args.tables in
    kid_entered x c.requires.tables c.node_count-nodes.ensures.is_tree c.args.node c.args.child c.args.kid
    c.first_place.result c.first_place.ensures.first
