use Rattle.std.proofs.Common.{◌<◌, [], get_or, Contains, List, subst, ap, ◌∙◌, arith}
use Rattle.ftl_model.specs.layout.Path.{class_at, node_at}
use Rattle.ftl_model.specs.layout.Tree.{size}
use Rattle.ftl_visit.specs.declared.visits.visit_op.VisitOp.{VisitOp}
use Rattle.ftl_cursors.specs.visits.Places.{grammar_of, tree_of}
use Rattle.ftl_cursors.proofs.visits.TargetLemmas.{class_within}
use Rattle.ftl_cursors.proofs.visits.place.next_node.Goals as goal

pub visit-at-requires : goal.visit-at-requires
visit-at-requires c =
    let x = c.args.tables in
    let first = c.in-Some.ensures.cases in
    let nodes = c.requires.place.nodes in
    let within : c.in-Some.node < size (tree_of x) = omega (arith, first.known) in
    let known = class_within (grammar_of x) (tree_of x) c.node_count-nodes.ensures.is_tree c.in-Some.node within in
    record { class = omega (arith, c.class.ensures.class, c.requires.tables.visits.count) }

pub returns-in-Some-clause-place : goal.returns-in-Some-clause-place
returns-in-Some-clause-place c =
    let x = c.args.tables in
    let first = c.in-Some.ensures.cases in
    let nodes = c.requires.place.nodes in
    let within : c.in-Some.node < size (tree_of x) = omega (arith, first.known) in
    let known = class_within (grammar_of x) (tree_of x) c.node_count-nodes.ensures.is_tree c.in-Some.node within in
    let class = class_at (tree_of x) (node_at (tree_of x) c.in-Some.node) in
    record {
      kids = c.requires.place.kids;
      node = within;
      ops = λ op there.
          c.requires.tables.visits.ops class known op
          (subst (λ (ops : List VisitOp). Contains ops op)
          (c.visit-at.ensures.visit ∙ ap (λ n. get_or x.visits.now n []) c.class.ensures.class) there);
      nodes = omega (arith, first.within);
    }
