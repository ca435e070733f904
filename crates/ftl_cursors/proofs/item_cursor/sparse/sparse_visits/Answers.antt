use Rattle.std.proofs.Common.{◌≡◌, ◌<◌, List, ap, ap₂, ◌∙◌, sym, subst, arith, length, map, Contains}
use Rattle.ftl_cursors.specs.classes.ClassSets.{AreClassBlocks}
use Rattle.ftl_cursors.specs.item_cursor.ItemSteps.{forest_in, grammar_in, order_of}
use Rattle.ftl_cursors.proofs.item_cursor.ItemVisits.{count_is, in_nodes, pass, targets_are, visits_are, within}
use Rattle.ftl_meaning.specs.faults.Checked.{CheckedGrammar}
use Rattle.ftl_model.specs.layout.Tree.{size}
use Rattle.ftl_order.specs.steps.Steps.{target_of}
use Rattle.ftl_order.specs.declared.steps.step.Step.{Step}
use Rattle.ftl_cursors.specs.visits.NodeRanges.{nodes_in}
use Rattle.ftl_cursors.specs.visits.VisitSteps.{AreVisits, steps_of_nodes}
use Rattle.ftl_visit.specs.declared.visits.visit_op.VisitOp.{VisitOp}
use Rattle.ftl_visit.specs.passes.VisitRows.{visits_of}
use Rattle.ftl_cursors.proofs.item_cursor.sparse.sparse_visits.Goals as goal

pub visited_classes-visited-requires : goal.visited_classes-visited-requires
visited_classes-visited-requires c =
    let x = c.args.tables in
    let found = c.args.found in
    let is = c.requires.found in
    let of_pass = c.visits_make_steps.ensures.visits (grammar_in x) c.requires.law found.kind c.requires.kind
    (pass x c.args.item found is).attrs in
    record {
      count =
          c.class_count.ensures.count
          ∙ ap (λ (k : CheckedGrammar). length k.grammar.classes) c.checked.ensures.grammar
          ∙ sym
          (ap (λ (vs : List (List VisitOp)). length vs)
          (visits_are x c.args.item found is c.requires.tables c.index-tables-found.result)
          ∙ of_pass.count);
    }

pub blocks_of-requires-clause-nodes : goal.blocks_of-requires-clause-nodes
blocks_of-requires-clause-nodes c =
    let x = c.args.tables in
    let found = c.args.found in
    let is = c.requires.found in
    let count = c.node_count-count.ensures.count
    ∙ count_is x c.args.item found is c.rows_of.result.now c.rows_of.ensures.rows in
    let low = within x c.args.item found is in
    omega (arith, count, low)

pub new-requires-clause-tables : goal.new-requires-clause-tables
new-requires-clause-tables c =
    let x = c.args.tables in
    let found = c.args.found in
    let is = c.requires.found in
    record {
      all = record {
        visits =
            subst (AreVisits (grammar_in x))
            (sym (visits_are x c.args.item found is c.requires.tables c.index-tables-found.result))
            (c.visits_make_steps.ensures.visits (grammar_in x) c.requires.law found.kind c.requires.kind
            (pass x c.args.item found is).attrs);
        targets = c.requires.tables.targets;
      };
      blocks = subst (AreClassBlocks (forest_in x)) (sym c.as_slice-blocks.ensures.value) x.items.rows.now.classes;
      visited = c.visited_classes-visited.ensures.visited;
    }

pub new-requires-clause-nodes : goal.new-requires-clause-nodes
new-requires-clause-nodes c =
    let x = c.args.tables in
    let found = c.args.found in
    let is = c.requires.found in
    let count = c.node_count-count.ensures.count
    ∙ count_is x c.args.item found is c.rows_of.result.now c.rows_of.ensures.rows in
    let low = within x c.args.item found is in
    omega (arith, count, low)

pub returns : goal.returns
returns c =
    let x = c.args.tables in
    let g = grammar_in x in
    let t = forest_in x in
    let found = c.args.found in
    let is = c.requires.found in
    let these = (pass x c.args.item found is).attrs in
    let ne = c.requires.kind in
    let count = c.node_count-count.ensures.count
    ∙ count_is x c.args.item found is c.rows_of.result.now c.rows_of.ensures.rows in
    let low = within x c.args.item found is in
    let steps : c.new.result
    ≡ steps_of_nodes g t (visits_of g found.kind these)
    (nodes_in (order_of found.kind) found.node c.node_count-count.result) =
    c.new.ensures.steps
    ∙ ap₂
    (λ (vs : List (List VisitOp)) o. steps_of_nodes g t vs (nodes_in o found.node c.node_count-count.result))
    (visits_are x c.args.item found is c.requires.tables c.index-tables-found.result)
    c.node_order.ensures.order in
    record {
      steps = λ s stage ordered there. record {
        steps_are = λ y among.
            c.visits_make_steps.ensures.steps g c.requires.law found.kind ne these t is.is_tree
            (nodes_in (order_of found.kind) found.node c.node_count-count.result)
            (λ n in_it.
            (let high = in_nodes (order_of found.kind) found.node c.node_count-count.result n in_it in
            let z : n < size t = omega (arith, high, count, low) in
            z))
            y
            (subst (λ (ys : List Step). Contains ys y) steps among);
        targets =
            ap (map (target_of g t)) steps
            ∙ ap
            (λ n. map (target_of g t)
            (steps_of_nodes g t (visits_of g found.kind these) (nodes_in (order_of found.kind) found.node n)))
            count
            ∙ targets_are x c.args.item found is c.requires.law s stage c.requires.kind;
      };
    }
