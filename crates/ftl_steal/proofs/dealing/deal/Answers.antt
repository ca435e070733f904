use Rattle.std.proofs.Common.{rules, ◌≡◌, ◌≢◌, ◌+◌, List, length, refl, subst, sym, ap, arith}
use Rattle.std.specs.List.{All}
use Rattle.std.proofs.lemmas.List.{length-map}
use Rattle.ftl_cells.specs.shared.Work.{pred_total}
use Rattle.ftl_pool.specs.Pool.{StealHoldModel}
use Rattle.ftl_steal.specs.Dealing.{HasFreeBelow, IsNextTurn, puts_of}
use Rattle.ftl_steal.proofs.Rounds.{AreDealtBelow, none_free, none_dealt, all_free_more, deals_one, passes_one}
use Rattle.ftl_steal.proofs.dealing.deal.Goals.{then-pred_count-eq0, else-pred_count-eq0}
use Rattle.ftl_steal.proofs.dealing.deal.Goals as goal

pub loop-item-init : goal.loop-item-init
loop-item-init g c =
    let m = g.W.Meant.meaning c.args.work.now in
    let holds = c.args.holds.now.items in record {
      count = refl;
      free = none_free m c.args.pool.now holds c.requires.fresh;
      turn = none_dealt m c.args.pool.now holds (omega (arith, c.requires.some)) c.requires.fresh;
    }

-- the item is dealt, or passed by
pub loop-item-preserved : goal.loop-item-preserved
loop-item-preserved g c =
    let m = g.W.Meant.meaning c.args.work.now in
    let holds = c.loop-item.holds.items in
    let inv = c.loop-item.invariant in
    let item = c.loop-item.item in
    let P = HasFreeBelow m c.args.pool.now (item + 1) in
    elim c.if-pred_count-eq0.branch [
      | then-pred_count-eq0 w ↦
          let none : pred_total m item ≡ 0 = search rules in
          let many : w.len.result ≡ length (puts_of holds) =
          omega (
            arith,
            w.len.ensures,
            w.deal_to.ensures.count,
            length-map holds (λ (h : StealHoldModel). h.hold.puts),
          ) in
          let next : IsNextTurn (length (puts_of holds)) c.loop-item.worker w.next_turn-worker.result =
          subst (λ n. IsNextTurn n c.loop-item.worker w.next_turn-worker.result) many w.next_turn-worker.ensures.next in
          let turn = deals_one m item c.loop-item.worker w.next_turn-worker.result (puts_of holds)
          (puts_of w.deal_to.new.holds.items) none inv.turn w.deal_to.ensures.puts next in
          let same : w.deal_to.new.holds.items ≡ c.if-pred_count-eq0.holds.items = λ i. (sym w.holds-is i).items in record {
            count = omega (arith, ap length same, w.deal_to.ensures.count, inv.count);
            free = subst (All P) same w.deal_to.ensures.free;
            turn = subst (λ n. AreDealtBelow m (item + 1) n (puts_of c.if-pred_count-eq0.holds.items)) (sym w.worker-is)
                (subst (λ (x : List StealHoldModel). AreDealtBelow m (item + 1) w.next_turn-worker.result (puts_of x)) same
                turn);
          }
      | else-pred_count-eq0 w ↦
          let some : pred_total m item ≢ 0 = search rules in
          let free = all_free_more m c.args.pool.now item holds inv.free in
          let turn = passes_one m item c.loop-item.worker (puts_of holds) some inv.turn in
          let same : holds ≡ c.if-pred_count-eq0.holds.items = λ i. (sym w.holds-is i).items in record {
            count = omega (arith, ap length same, inv.count);
            free = subst (All P) same free;
            turn = subst (λ n. AreDealtBelow m (item + 1) n (puts_of c.if-pred_count-eq0.holds.items)) (sym w.worker-is)
                (subst (λ (x : List StealHoldModel). AreDealtBelow m (item + 1) c.loop-item.worker (puts_of x)) same turn);
          }
    ]
