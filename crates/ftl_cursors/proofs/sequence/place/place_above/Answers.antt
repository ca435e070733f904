use Rattle.std.proofs.Common.{sym, ◌∙◌, ap, subst, arith}
use Rattle.ftl_model.specs.layout.Path.{AtOrAbove}
use Rattle.ftl_items.specs.stage_items.Items.{is_same_node}
use Rattle.ftl_items.proofs.stage_items.HandingLaws.{node_itself}
use Rattle.ftl_tree.proofs.rows.Access.{has_at}
use Rattle.ftl_cursors.specs.sequence.Moves.{moves_up}
use Rattle.ftl_cursors.specs.sequence.Places.{first_of, grammar_of, node_of, tree_of}
use Rattle.ftl_cursors.specs.sequence.SequenceRest.{rest_up}
use Rattle.ftl_cursors.proofs.sequence.Above.{moves_above, none_after, other_node, parent_within, rest_above, stands_at}
use Rattle.ftl_cursors.proofs.sequence.place.place_above.Goals as goal

pub overflow_add-place : goal.overflow_add-place
overflow_add-place c =
    let x = c.args.tables in
    let g = grammar_of x in
    let t = tree_of x in
    let fits = c.node_count-nodes.ensures.is_tree in
    let at =
    stands_at g t fits c.in-Some.parent c.place-place.result.child c.place-place.result.kid (node_of x c.args.node)
    (has_at g t c.args.node fits c.requires.node) (sym c.in-Some.ensures.parent) c.place-place.ensures.child
    c.place-place.ensures.kid in
    omega (arith, at.few, c.node_count-nodes.ensures.bound, c.node_count-nodes.ensures.count)

pub kid_place-requires-clause-at : goal.kid_place-requires-clause-at
kid_place-requires-clause-at c =
    let x = c.args.tables in
    let g = grammar_of x in
    let t = tree_of x in
    let fits = c.node_count-nodes.ensures.is_tree in
    let at =
    stands_at g t fits c.in-Some.parent c.place-place.result.child c.place-place.result.kid (node_of x c.args.node)
    (has_at g t c.args.node fits c.requires.node) (sym c.in-Some.ensures.parent) c.place-place.ensures.child
    c.place-place.ensures.kid in
    record { known = at.known; declared = at.declared }

pub kid_place-requires-clause-within : goal.kid_place-requires-clause-within
kid_place-requires-clause-within c =
    let x = c.args.tables in
    let g = grammar_of x in
    let t = tree_of x in
    let fits = c.node_count-nodes.ensures.is_tree in
    let child = c.place-place.result.child in
    let kid = c.place-place.result.kid in
    let at =
    stands_at g t fits c.in-Some.parent child kid (node_of x c.args.node)
    (has_at g t c.args.node fits c.requires.node) (sym c.in-Some.ensures.parent) c.place-place.ensures.child
    c.place-place.ensures.kid in
    let other =
    ap (is_same_node (first_of x)) (sym at.is)
    ∙ other_node g t fits x.first c.args.node c.requires.tables.first c.requires.node c.if-node-tables.false in
    parent_within (first_of x) child kid (node_of x c.in-Some.parent) other
    (subst (AtOrAbove (first_of x)) at.is c.requires.within)

pub returns-then-node-tables : goal.returns-then-node-tables
returns-then-node-tables c =
    let x = c.args.tables in
    let p = node_of x c.args.node in
    record {
      above =
          none_after (grammar_of x) (tree_of x) x.attrs.now (first_of x) p
          (ap (λ n. is_same_node (node_of x n) p) (sym c.if-node-tables.true) ∙ node_itself p);
    }

pub returns : goal.returns
returns c =
    let x = c.args.tables in
    let g = grammar_of x in
    let t = tree_of x in
    let a = x.attrs.now in
    let first = first_of x in
    let child = c.place-place.result.child in
    let kid = c.place-place.result.kid in
    let fits = c.node_count-nodes.ensures.is_tree in
    let at =
    stands_at g t fits c.in-Some.parent child kid (node_of x c.args.node)
    (has_at g t c.args.node fits c.requires.node) (sym c.in-Some.ensures.parent) c.place-place.ensures.child
    c.place-place.ensures.kid in
    let other =
    ap (is_same_node first) (sym at.is)
    ∙ other_node g t fits x.first c.args.node c.requires.tables.first c.requires.node c.if-node-tables.false in
    let next = c.kid_place.ensures.kid in
    record {
      above = record {
        place = next.place;
        left =
            next.left ∙ sym (rest_above g t a first child kid (node_of x c.in-Some.parent) other)
            ∙ ap (rest_up g t a first) (sym at.is);
        moves =
            next.moves ∙ sym (moves_above g t a first child kid (node_of x c.in-Some.parent) other)
            ∙ ap (moves_up g t first) (sym at.is);
      };
    }
