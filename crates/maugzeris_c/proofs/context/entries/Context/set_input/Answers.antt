use Rattle.std.proofs.Common.{ℤ, ap, subst, w64}
use Rattle.std.proofs.Math.Facts.{to_z-of_z}
use Rattle.std.specs.Result.{IfErr, IfOk}
use Rattle.maugzeris_c.proofs.context.Changed.{Finds, found_changed, is_found}
use Rattle.maugzeris_c.specs.context.Changing.{MayNotTake, SetsInput}
use Rattle.maugzeris_c.specs.contracts.context.entries.Context.{the_view}
use Rattle.maugzeris_c.proofs.context.entries.Context.set_input.Goals as goal
use Rattle.maugzeris_c.proofs.context.entries.Context.set_input.Goals.{in-Some, in-None}

pub returns : goal.returns
returns c =
    let node = c.args.node in
    let attribute = c.args.attribute in
    let value = to_z-of_z {w = w64} c.ranges.value in
    let before = the_view c.self.inside in
    let place = c.index_mut.result.now in
    let finds : Finds c.args.self.now before c.args.page c.page.result c.is_none.result place =
    record {
      same = c.self.view_is;
      looked_for = c.page.ensures.page;
      test = c.is_none.ensures;
      some = c.if-is_none.false;
      stands = c.index_mut.ensures.value;
    } in
    elim c.match-index_mut.branch [
      | in-Some w ↦
          record {
            changes =
                let was = w.in-Some.place in
                let is = w.set_input.new.self in
                let done = w.set_input.result in
                let told = w.set_input.ensures in
                found_changed _ _ _ _ _ _ _ _ _ was is done _ finds w.in-Some.is (ap the_view w.self-inside-is) w.result-is
                (subst (λ (z : ℤ). IfOk done (SetsInput node attribute z was is)) value told.done)
                (subst (λ (z : ℤ). IfErr done (MayNotTake node attribute z was)) value told.cause) told.unchanged;
          }
      | in-None w ↦ absurd (is_found _ _ _ _ _ _ finds w.in-None.is)
    ]
