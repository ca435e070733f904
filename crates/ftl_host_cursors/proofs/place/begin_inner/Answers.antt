use Rattle.std.proofs.Common.{◌++◌, List, get_or, ◌∙◌, ap}
use Rattle.ftl_cursors.specs.declared.sequence.block_places.BlockPlaces.{BlockPlaces}
use Rattle.ftl_cursors.specs.stages.PassTables.{pass_places, pass_visits}
use Rattle.ftl_visit.specs.declared.visits.visit_op.VisitOp.{VisitOp}
use Rattle.ftl_host_cursors.specs.HostPlaces.{grammar_of, nodes_left, own_left, steps_in, tree_of}
use Rattle.ftl_host_cursors.specs.HostSteps.{hosted_steps, inner_pass_steps, inner_steps, own_steps}
use Rattle.ftl_host_cursors.proofs.FirstEntries.{after_first, first-map, rest-map}
use Rattle.ftl_host_cursors.proofs.Turns.{inner_turn}
use Rattle.ftl_host_cursors.proofs.place.begin_inner.Goals as goal

pub inner_cursor-requires-clause-visits : goal.inner_cursor-requires-clause-visits
inner_cursor-requires-clause-visits c =
    let at = c.args.at.now in
    ap (λ (vs : List (List (List VisitOp))). get_or vs 0 c.index-at-0-2.result) c.requires.place.visits
    ∙ first-map (pass_visits (grammar_of c.args.tables)) at.passes.now c.index-at-0.result c.index-at-0-2.result
    c.requires.passes

pub inner_cursor-requires-clause-places : goal.inner_cursor-requires-clause-places
inner_cursor-requires-clause-places c =
    let at = c.args.at.now in
    ap (λ (ps : List (List (List BlockPlaces))). get_or ps 0 c.index-at-0-3.result) c.requires.place.places
    ∙ first-map (pass_places (grammar_of c.args.tables)) at.passes.now c.index-at-0.result c.index-at-0-3.result
    c.requires.passes

pub returns-clause-place : goal.returns-clause-place
returns-clause-place c =
    let g = grammar_of c.args.tables in
    let at = c.args.at.now in
    record {
      node = c.requires.place.node;
      visits =
          ap (λ (vs : List (List (List VisitOp))). after_first vs) c.requires.place.visits
          ∙ rest-map (pass_visits g) at.passes.now;
      places =
          ap (λ (ps : List (List (List BlockPlaces))). after_first ps) c.requires.place.places
          ∙ rest-map (pass_places g) at.passes.now;
      nodes = c.requires.place.nodes;
    }

pub returns-clause-left : goal.returns-clause-left
returns-clause-left c =
    let x = c.args.tables in
    let g = grammar_of x in
    let t = tree_of x in
    let at = c.args.at.now in
    let kind = x.pass.now.kind in
    let rest = steps_in x (nodes_left at.nodes) in
    ap (λ s. s ++ (hosted_steps kind (own_left x at) (inner_steps g t at.node (after_first at.passes.now)) ++ rest))
    c.inner_cursor.ensures.steps
    ∙ inner_turn (inner_pass_steps g t at.node) (own_steps g t x.pass.now at.node) rest kind at.own at.passes.now
    c.index-at-0.result c.requires.passes c.requires.turn
