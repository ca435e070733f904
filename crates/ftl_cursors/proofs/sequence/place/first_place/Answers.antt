use Rattle.std.proofs.Common.{◌≡◌, suc, ◌+◌, ◌++◌, ◌<◌, [], get_or, length, List, inr, sym, ◌∙◌, ap, subst, arith}
use Rattle.ftl_cursors.specs.inorder.InorderSteps.{inorder_steps}
use Rattle.ftl_model.specs.layout.Path.{AtOrAbove, Has, at as tree_at, class_at, down}
use Rattle.ftl_model.specs.layout.Tree.{below_of, size}
use Rattle.ftl_model.proofs.layout.Standing.{node_at-number_of, number_of-lt}
use Rattle.ftl_order.proofs.orders.Kids.{kid_exists}
use Rattle.ftl_schedule.specs.declared.syntax.kind.PassKind.TheVariants.{InOrder}
use Rattle.ftl_tree.proofs.rows.Access.{has_at, size-one}
use Rattle.ftl_visit.specs.declared.visits.visit_op.VisitOp.{VisitOp}
use Rattle.ftl_visit.specs.passes.VisitRows.{visits_of}
use Rattle.ftl_cursors.specs.sequence.Moves.{moves, moves_left, moves_up, own_moves}
use Rattle.ftl_cursors.specs.sequence.Places.{FitOps, first_of, grammar_of, node_of, tree_of}
use Rattle.ftl_cursors.specs.sequence.SequenceRest.{rest_of_ops, rest_up}
use Rattle.ftl_cursors.proofs.sequence.Above.{kid_elsewhere, moves_above, rest_above}
use Rattle.ftl_cursors.proofs.sequence.MoveLemmas.{visit_moves}
use Rattle.ftl_cursors.proofs.sequence.CursorMoves.{class_within, visit_fits, visit_in, visits_count}
use Rattle.ftl_cursors.proofs.sequence.RestLemmas.{visit_left}
use Rattle.ftl_cursors.proofs.sequence.place.first_place.Goals as goal

pub class-requires : goal.class-requires
class-requires c =
    let x = c.args.tables in
    let g = grammar_of x in
    let t = tree_of x in
    let p = node_of x c.args.node in
    let there : Has t (down c.args.child c.args.kid p) =
    kid_exists c.args.child c.args.kid (below_of (tree_at t p)) c.requires.kid in
    let first = number_of-lt t (down c.args.child c.args.kid p) there in
    let one = size-one g t c.node_count-nodes.ensures.is_tree in
    record { node = omega (arith, c.kid-below.ensures.kid) }

pub visit-ops-requires : goal.visit-ops-requires
visit-ops-requires c =
    let x = c.args.tables in
    let g = grammar_of x in
    let t = tree_of x in
    let p = node_of x c.args.node in
    let there : Has t (down c.args.child c.args.kid p) =
    kid_exists c.args.child c.args.kid (below_of (tree_at t p)) c.requires.kid in
    let first = number_of-lt t (down c.args.child c.args.kid p) there in
    let one = size-one g t c.node_count-nodes.ensures.is_tree in
    let within : c.kid-below.result < size t = omega (arith, c.kid-below.ensures.kid) in
    let known = class_within g t c.node_count-nodes.ensures.is_tree c.kid-below.result within in
    let count = ap length c.requires.tables.visits ∙ visits_count g x.attrs.now in
    record { class = omega (arith, c.class.ensures.class) }

pub returns : goal.returns
returns c =
    let x = c.args.tables in
    let g = grammar_of x in
    let t = tree_of x in
    let a = x.attrs.now in
    let at_first = first_of x in
    let fits = c.node_count-nodes.ensures.is_tree in
    let p = node_of x c.args.node in
    let child = c.args.child in
    let kid = c.args.kid in
    let there : Has t (down child kid p) = kid_exists child kid (below_of (tree_at t p)) c.requires.kid in
    let first = number_of-lt t (down child kid p) there in
    let one = size-one g t fits in
    let below = c.kid-below.result in
    let within : below < size t = omega (arith, c.kid-below.ensures.kid) in
    let q = node_of x below in
    let q_there = has_at g t below fits within in
    let same : q ≡ down child kid p =
    ap (node_of x) c.kid-below.ensures.kid ∙ node_at-number_of t (down child kid p) there in
    let elsewhere = kid_elsewhere t at_first p child kid there c.requires.within in
    let is =
    c.visit-ops.ensures.visit
    ∙ ap (λ (vs : List (List VisitOp)). get_or vs c.class.result []) c.requires.tables.visits
    ∙ ap (λ n. get_or (visits_of g InOrder a) n []) c.class.ensures.class
    ∙ visit_in g a (class_at t q) (class_within g t fits below within) in
    record {
      first = record {
        place = record {
          node = within;
          within = subst (AtOrAbove at_first) (sym same) (inr c.requires.within);
          ops = subst (FitOps g t q 0) (sym is) (visit_fits g t q a);
        };
        left =
            ap (rest_of_ops g t a at_first q 0) is ∙ visit_left g t a at_first q fits q_there
            ∙ ap (λ r. inorder_steps g t a r ++ rest_up g t a at_first r) same
            ∙ ap (λ s. inorder_steps g t a (down child kid p) ++ s) (rest_above g t a at_first child kid p elsewhere);
        moves =
            ap (λ ops. suc (moves_left g t at_first q 0 ops)) is ∙ visit_moves g t a at_first q fits q_there
            ∙ ap
            (λ r. length (own_moves g (class_at t r) ++ moves g (below_of (tree_at t r))) + moves_up g t at_first r) same
            ∙ ap (λ m. length (own_moves g (class_at t (down child kid p)) ++ moves g (below_of (tree_at t (down child kid p)))) + m)
            (moves_above g t a at_first child kid p elsewhere);
      };
    }
