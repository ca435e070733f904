use Rattle.maugzeris_c.proofs.context.Changed.{Finds, found_changed, is_found}
use Rattle.maugzeris_c.proofs.context.entries.Context.relayout.Goals as goal
use Rattle.maugzeris_c.proofs.context.entries.Context.relayout.Goals.{in-Some, in-None}
use Rattle.std.proofs.Common.{ap}
use Rattle.maugzeris_c.specs.contracts.context.entries.Context.{the_view}

pub returns : goal.returns
returns c =
    let before = the_view c.self.inside in
    let place = c.index_mut.result.now in
    let finds : Finds c.args.self.now before c.args.page c.page.result c.is_none.result place =
    record {
      same = c.self.view_is;
      looked_for = c.page.ensures.page;
      test = c.is_none.ensures;
      some = c.if-is_none.false;
      stands = c.index_mut.ensures.value;
    } in
    elim c.match-index_mut.branch [
      | in-Some w ↦
          record {
            changes =
                found_changed _ _ _ _ _ _ _ _ _ w.in-Some.place w.relayout.new.self w.relayout.result _ finds w.in-Some.is
                (ap the_view w.self-inside-is) w.result-is w.relayout.ensures.done w.relayout.ensures.cause
                w.relayout.ensures.unchanged;
          }
      | in-None w ↦ absurd (is_found _ _ _ _ _ _ finds w.in-None.is)
    ]
