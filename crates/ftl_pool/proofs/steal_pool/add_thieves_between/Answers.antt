use Rattle.std.proofs.Common.{◌≡◌, ◌+◌, ◌<◌, ◌∙◌, length, subst, arith, slice_range, List}
use Rattle.std.proofs.lemmas.List.{length-map}
use Rattle.ftl_pool.specs.Deque.{DequeName}
use Rattle.ftl_pool.specs.Pool.{StealHoldModel, own_deques, stolen_deques}
use Rattle.ftl_pool.proofs.Thieves.{gains, gains_more}
use Rattle.ftl_pool.proofs.steal_pool.add_thieves_between.Goals as goal

-- one more thief is given
pub loop-other-preserved : goal.loop-other-preserved
loop-other-preserved c =
    let inv = c.loop-other.invariant in
    let holds = c.args.holds.now.items in
    let there : c.args.worker < length (stolen_deques holds) =
    omega (arith, c.requires.worker, length-map holds (λ (h : StealHoldModel). h.others)) in
    let inside : c.loop-other.other < length (own_deques holds) =
    omega (arith, c.loop-other-test.true, c.requires.end, length-map holds (λ (h : StealHoldModel). h.own)) in
    let last : stolen_deques c.add_thief_of.new.holds.items ≡ gains (stolen_deques c.loop-other.holds.items) c.args.worker
    (slice_range (own_deques holds) c.loop-other.other (c.loop-other.other + 1)) =
    subst (λ (x : List DequeName). stolen_deques c.add_thief_of.new.holds.items
    ≡ gains (stolen_deques c.loop-other.holds.items) c.args.worker
    (slice_range x c.loop-other.other (c.loop-other.other + 1))) inv.own c.in_ok-add_thief_of.ensures.others in record {
      same = c.add_thief_of.ensures.holds ∙ inv.same;
      fresh = c.add_thief_of.ensures.fresh;
      own = c.add_thief_of.ensures.own ∙ inv.own;
      others = gains_more (own_deques holds) (stolen_deques holds) (stolen_deques c.loop-other.holds.items)
          (stolen_deques c.add_thief_of.new.holds.items) c.args.worker c.args.first c.loop-other.other (0, 0) there
          (omega (arith, c.loop-other.auto.other)) inside inv.others last;
    }
