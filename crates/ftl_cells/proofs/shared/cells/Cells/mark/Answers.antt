use Rattle.std.proofs.Common.{ap, ◌∙◌}
use Rattle.ftl_cells.proofs.shared.Ready.{mark_ready}
use Rattle.ftl_cells.proofs.shared.cells.Cells.mark.Goals as goal

pub mark_state-requires-clause-working : goal.mark_state-requires-clause-working
mark_state-requires-clause-working g c =
    let inside = c.hand.inside in let arm = c.in-Working in
    mark_ready (g.W.Meant.meaning c.args.self.now.1) c.args.hand.now inside.place inside.seat arm.item arm.step
    arm.reads
    (ap (λ h. h.state.place) c.hand.view_is) c.requires.working
    (ap (λ h. h.state.of) c.hand.view_is ∙ c.requires.made.1) c.hand.invariant arm.is
