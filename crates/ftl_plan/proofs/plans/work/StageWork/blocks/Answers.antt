use Rattle.std.proofs.Common.{◌≡◌, ◌≤◌, refl, subst, arith, length}
use Rattle.ftl_cursors.specs.items.StageItems.{items_in}
use Rattle.ftl_lots.specs.filling.Blocks.{AreIdle}
use Rattle.ftl_lots.specs.declared.filling.blocks.ItemBlocks.{ItemBlocks}
use Rattle.ftl_plan.specs.plans.StageParts.{StageView, meaning_at}
use Rattle.ftl_plan.proofs.plans.Idle.{idle}
use Rattle.ftl_plan.proofs.plans.StageClasses.{classes_here}
use Rattle.ftl_plan.proofs.plans.work.StageWork.blocks.Goals as goal

pub returns-then-have_visits_alone : goal.returns-then-have_visits_alone
returns-then-have_visits_alone c =
    let v = c.args.self.now in
    let w = c.self.inside.parts in
    let l = c.in-Some.lots in
    let few : length (items_in w.item_tables.own.items) ≤ 2147483648 =
    omega (arith, c.item_count-items.ensures.count, c.item_count-items.ensures.bound) in
    let classes =
    classes_here w c.self.invariant v c.self.view_is l.classes.items (c.requires.lots l c.in-Some.is).classes in
    let b : ItemBlocks = record { sets = c.as_slice.result; wanted = c.visited_in.result } in
    record {
      idle =
          subst (λ (u : StageView). AreIdle (meaning_at u) b) c.self.view_is
          (idle w c.self.invariant few (c.have_visits_alone.ensures.alone c.if-have_visits_alone.true) l.classes.items
          c.visited_in.result c.items_without_steps.ensures.none classes c.visited_in.ensures.visited b
          c.as_slice.ensures.value refl);
    }
