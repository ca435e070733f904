use Rattle.std.proofs.Common.{sym, ◌∙◌, ap}
use Rattle.ftl_model.specs.layout.Path.{node_at}
use Rattle.ftl_schedule.specs.declared.syntax.kind.PassKind.TheVariants.{InOrder}
use Rattle.ftl_visit.specs.passes.VisitRows.{visits_of}
use Rattle.ftl_cursors.specs.inorder.InorderSteps.{inorder_steps}
use Rattle.ftl_cursors.specs.sequence.BlockPlaces.{places_of}
use Rattle.ftl_host_cursors.specs.HostPlaces.{grammar_of, tree_of}
use Rattle.ftl_host_cursors.specs.HostSteps.{tree_steps}
use Rattle.ftl_host_cursors.proofs.place.inner_cursor.Goals as goal

pub new-requires-clause-visits : goal.new-requires-clause-visits
new-requires-clause-visits c =
    let g = grammar_of c.args.tables in
    c.requires.visits
    ∙ ap (λ k. visits_of g k c.args.pass.now.attrs) c.in-InOrder.is
    ∙ ap (visits_of g InOrder) (sym c.as_slice-attrs.ensures)

pub new-requires-clause-places : goal.new-requires-clause-places
new-requires-clause-places c = c.requires.places ∙ ap places_of (sym c.requires.visits)

pub returns-in-InOrder : goal.returns-in-InOrder
returns-in-InOrder c =
    let g = grammar_of c.args.tables in
    let t = tree_of c.args.tables in
    let n = c.args.node in
    let pass = c.args.pass.now in
    record {
      steps =
          c.new.ensures.steps
          ∙ ap (λ a. inorder_steps g t a (node_at t n)) c.as_slice-attrs.ensures
          ∙ ap (λ k. tree_steps g t n k pass.attrs) (sym c.in-InOrder.is);
    }
