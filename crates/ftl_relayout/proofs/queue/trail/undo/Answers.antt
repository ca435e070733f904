use Rattle.std.proofs.Common.{sym, ◌∙◌, ap, length-set, length}
use Rattle.ftl_relayout.specs.queue.Trails.{undone}
use Rattle.ftl_relayout.proofs.queue.Trails.{front_within, undone-last}
use Rattle.ftl_relayout.proofs.queue.trail.undo.Goals as goal

pub loop-before-preserved : goal.loop-before-preserved
loop-before-preserved c =
    let old = c.loop-before.values in
    let b = c.in-Some.before in
    let items = c.in-Some.ensures.items in (
      front_within (length old) (length (Rattle.std.specs.Prelude.slice_set old b.cell b.value)) c.loop-before.trail.items
          c.pop.new.self.items b items (length-set old b.cell b.value) c.loop-before.invariant.0,
      sym (undone-last c.pop.new.self.items b old) ∙ ap (λ bs. undone bs old) (sym items) ∙ c.loop-before.invariant.1,
    )
