use Rattle.std.proofs.Common.{◌≡◌, ◌<◌, List, ap, ap₂, ◌∙◌, sym, subst, arith, map, Contains}
use Rattle.ftl_cursors.specs.item_cursor.ItemSteps.{forest_in, grammar_in, order_of}
use Rattle.ftl_cursors.proofs.items.Found.{node_known}
use Rattle.ftl_cursors.proofs.item_cursor.ItemVisits.{count_is, in_nodes, pass, targets_are, visit_known, visits_are, within}
use Rattle.ftl_model.specs.layout.Tree.{size}
use Rattle.ftl_order.specs.steps.Steps.{target_of}
use Rattle.ftl_order.specs.declared.steps.step.Step.{Step}
use Rattle.ftl_cursors.specs.visits.NodeRanges.{nodes_in}
use Rattle.ftl_cursors.specs.visits.VisitSteps.{AreVisits, steps_of_nodes}
use Rattle.ftl_visit.specs.declared.visits.visit_op.VisitOp.{VisitOp}
use Rattle.ftl_visit.specs.passes.VisitRows.{visits_of}
use Rattle.ftl_cursors.proofs.item_cursor.item.visit_steps.Goals as goal

pub bounds-tables-found : goal.bounds-tables-found
bounds-tables-found c =
    visit_known c.args.tables c.args.item c.args.found c.requires.found c.requires.tables

pub rows_of-requires : goal.rows_of-requires
rows_of-requires c = record { known = c.requires.found.pass_known }

pub node_count-count-requires : goal.node_count-count-requires
node_count-count-requires c =
    record {
      node =
          node_known c.args.tables.items c.args.item c.args.found c.requires.found c.rows_of.result.now
          c.rows_of.ensures.rows;
    }

pub node_order-order-requires : goal.node_order-order-requires
node_order-order-requires c = record { kind = c.requires.kind }

pub new-requires-clause-visits : goal.new-requires-clause-visits
new-requires-clause-visits c =
    let x = c.args.tables in
    let found = c.args.found in
    let is = c.requires.found in
    subst (AreVisits (grammar_in x))
    (sym (visits_are x c.args.item found is c.requires.tables c.index-tables-found.result))
    (c.visits_make_steps.ensures.visits (grammar_in x) c.requires.law found.kind
    c.requires.kind
    (pass x c.args.item found is).attrs)

pub new-requires-clause-nodes : goal.new-requires-clause-nodes
new-requires-clause-nodes c =
    let x = c.args.tables in
    let found = c.args.found in
    let is = c.requires.found in
    let count = c.node_count-count.ensures.count
    ∙ count_is x c.args.item found is c.rows_of.result.now c.rows_of.ensures.rows in
    let low = within x c.args.item found is in
    omega (arith, count, low)

pub returns : goal.returns
returns c =
    let x = c.args.tables in
    let g = grammar_in x in
    let t = forest_in x in
    let found = c.args.found in
    let is = c.requires.found in
    let these = (pass x c.args.item found is).attrs in
    let ne = c.requires.kind in
    let count = c.node_count-count.ensures.count
    ∙ count_is x c.args.item found is c.rows_of.result.now c.rows_of.ensures.rows in
    let low = within x c.args.item found is in
    let steps : c.new.result
    ≡ steps_of_nodes g t (visits_of g found.kind these)
    (nodes_in (order_of found.kind) found.node c.node_count-count.result) =
    c.new.ensures.steps
    ∙ ap₂
    (λ (vs : List (List VisitOp)) o. steps_of_nodes g t vs (nodes_in o found.node c.node_count-count.result))
    (visits_are x c.args.item found is c.requires.tables c.index-tables-found.result)
    c.node_order-order.ensures.order in
    record {
      steps = λ s stage ordered there. record {
        steps_are = λ y among.
            c.visits_make_steps.ensures.steps g c.requires.law found.kind ne these t is.is_tree
            (nodes_in (order_of found.kind) found.node c.node_count-count.result)
            (λ n in_it.
            (let high = in_nodes (order_of found.kind) found.node c.node_count-count.result n in_it in
            let z : n < size t = omega (arith, high, count, low) in
            z))
            y
            (subst (λ (ys : List Step). Contains ys y) steps among);
        targets =
            ap (map (target_of g t)) steps
            ∙ ap
            (λ n. map (target_of g t)
            (steps_of_nodes g t (visits_of g found.kind these) (nodes_in (order_of found.kind) found.node n)))
            count
            ∙ targets_are x c.args.item found is c.requires.law s stage c.requires.kind;
      };
    }
