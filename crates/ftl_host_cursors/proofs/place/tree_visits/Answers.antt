use Rattle.std.proofs.Common.{sym, ◌∙◌, ap, ap₂, subst, arith}
use Rattle.ftl_cursors.specs.stages.PassTables.{pass_visits}
use Rattle.ftl_cursors.specs.visits.NodeRanges.{nodes_in}
use Rattle.ftl_cursors.specs.visits.VisitSteps.{AreVisits, steps_of_nodes}
use Rattle.ftl_host_cursors.specs.HostPlaces.{grammar_of, tree_of}
use Rattle.ftl_host_cursors.proofs.NodeLemmas.{tree_within}
use Rattle.ftl_host_cursors.proofs.Turns.{by_nodes}
use Rattle.ftl_host_cursors.proofs.place.tree_visits.Goals as goal

pub new-requires-clause-visits : goal.new-requires-clause-visits
new-requires-clause-visits c =
    let x = c.args.tables in
    subst (AreVisits (grammar_of x)) (sym c.requires.visits)
    (c.visits_make_steps.ensures.visits (grammar_of x) c.requires.tables.law c.args.pass.now.kind c.requires.kind
    c.args.pass.now.attrs)

pub new-requires-clause-nodes : goal.new-requires-clause-nodes
new-requires-clause-nodes c =
    let x = c.args.tables in
    let within =
    tree_within (grammar_of x) (tree_of x) c.node_count-nodes.ensures.is_tree c.args.node c.requires.node in
    let size = c.subtree_size-size.ensures.size in
    omega (arith, within, size)

pub returns : goal.returns
returns c =
    let x = c.args.tables in
    let g = grammar_of x in
    let t = tree_of x in
    let n = c.args.node in
    let pass = c.args.pass.now in
    record {
      steps =
          c.new.ensures.steps
          ∙ ap (λ v. steps_of_nodes g t v (nodes_in c.node_order-order.result n c.subtree_size-size.result))
          c.requires.visits
          ∙ ap₂ (λ o m. steps_of_nodes g t (pass_visits g pass) (nodes_in o n m)) c.node_order-order.ensures.order
          c.subtree_size-size.ensures.size
          ∙ by_nodes g t n pass.kind pass.attrs c.requires.kind;
    }
