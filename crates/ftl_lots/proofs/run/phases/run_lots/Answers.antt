use Rattle.std.proofs.Common.{◌≡◌, ◌+◌, subst, sym, ap, ◌∙◌, length, arith}
use Rattle.ftl_cells.specs.shared.Work.{cell_total, item_total}
use Rattle.ftl_cells.specs.shared.State.{AreLast}
use Rattle.ftl_cells.specs.work_phases.Phases.{CanTake}
use Rattle.ftl_cells.specs.declared.work_phases.phase.Phase.TheVariants.{First}
use Rattle.ftl_lots.specs.filling.Filled.{HoldMade, IsFilledIn, IsOfFirstOrRanges}
use Rattle.ftl_lots.specs.filling.Spans.{AreSpans}
use Rattle.ftl_lots.specs.words.Parts.{IsCut, all_words}
use Rattle.ftl_lots.proofs.filling.Joins.{begins, ends, first_made, last_begins}
use Rattle.ftl_lots.proofs.run.LotParts.{begun, filled_cut, first_begins, joined, lots_end}
use Rattle.ftl_lots.proofs.run.phases.run_lots.Goals as goal

pub invariant_of-filler : goal.invariant_of-filler
invariant_of-filler g c =
    let m = g.W.Meant.meaning c.args.work.now in
    let t = c.phases.inside.phases in
    let can : CanTake m t = subst (CanTake m) (sym c.phases.view_is) c.requires.phases in
    let same : c.as_slice.result.now ≡ c.phases.inside.spans.items = c.as_slice.ensures.value in record {
      lawful = c.items-items.ensures.lawful;
      taken = can;
      narrow = omega arith;
      count = (let n = ap length same in let k = c.phases.invariant.0 in omega (arith, n, k));
      spanned = subst (AreSpans t (item_total m)) (sym same)
          (subst (λ n. AreSpans t n c.phases.inside.spans.items) can.count c.phases.invariant.1);
      idle = c.requires.idle;
    }

pub fill_alone-requires-clause-filled : goal.fill_alone-requires-clause-filled
fill_alone-requires-clause-filled g c κs within =
    let m = g.W.Meant.meaning c.args.work.now in
    let t = c.phases.inside.phases in
    subst (λ ws. IsFilledIn m t First ws 0 0 0) (sym c.in_ok-all.ensures.cut.words_are)
    (begins m t c.args.words c.items-items.ensures.lawful (subst (CanTake m) (sym c.phases.view_is) c.requires.phases)
    c.requires.first)

pub filled_parts-requires-clause-begun : goal.filled_parts-requires-clause-begun
filled_parts-requires-clause-begun g c κs within =
    let m = g.W.Meant.meaning c.args.work.now in
    let t = c.phases.inside.phases in
    let parts = c.fill_alone.new.words.parts.items in
    let size = c.fill_alone.ensures.size ∙ c.in_ok-all.ensures.size in
    let cut : IsCut t.size parts = subst (λ n. IsCut n parts) size c.fill_alone.ensures.cut in
    let count : 0 + length (all_words parts) ≡ cell_total m =
    omega (
      arith,
      c.fill_alone.ensures.count,
      ap length c.in_ok-all.ensures.cut.words_are,
      c.requires.first.count,
    ) in
    begun m t 0 0 parts cut (first_begins m t) count
    (first_made m t (all_words parts) c.fill_alone.ensures.filled)

pub fill_alone-requires-2-clause-filled : goal.fill_alone-requires-2-clause-filled
fill_alone-requires-2-clause-filled g c κs within =
    let m = g.W.Meant.meaning c.args.work.now in
    let t = c.phases.inside.phases in
    let law = c.items-items.ensures.lawful in
    let can : CanTake m t = subst (CanTake m) (sym c.phases.view_is) c.requires.phases in
    let parts = c.in_ok-parts.parts.items in
    let filled = c.in_ok-parts.ensures.filled in
    let lots : length parts ≡ t.ranges = omega (arith, c.in_ok-parts.ensures.count) in
    let stop = (filled_cut m t 0 0 parts (first_begins m t) filled).1 in
    let count : length (all_words parts) ≡ cell_total m =
    omega (arith, stop, lots_end m t (length parts) can lots) in
    last_begins m t (all_words parts) law can count
    (subst (λ n. HoldMade m (IsOfFirstOrRanges t 0 n) (all_words parts) 0) lots
    (joined m t 0 0 parts law can (first_begins m t) filled))

pub fill_alone-requires-2-clause-cut : goal.fill_alone-requires-2-clause-cut
fill_alone-requires-2-clause-cut g c κs within =
    let m = g.W.Meant.meaning c.args.work.now in
    let t = c.phases.inside.phases in
    (filled_cut m t 0 0 c.in_ok-parts.parts.items (first_begins m t) c.in_ok-parts.ensures.filled).0

pub in_parts-requires-clause-count : goal.in_parts-requires-clause-count
in_parts-requires-clause-count g c =
    let m = g.W.Meant.meaning c.args.work.now in
    let t = c.phases.inside.phases in
    let can : CanTake m t = subst (CanTake m) (sym c.phases.view_is) c.requires.phases in
    let parts = c.in_ok-parts.parts.items in
    let lots : length parts ≡ t.ranges = omega (arith, c.in_ok-parts.ensures.count) in
    let stop = (filled_cut m t 0 0 parts (first_begins m t) c.in_ok-parts.ensures.filled).1 in
    omega (
      arith,
      c.in_ok-all.ensures.row,
      c.requires.first.count,
      c.fill_alone-2.ensures.count,
      stop,
      lots_end m t (length parts) can lots,
    )

pub returns : goal.returns
returns g c =
    let m = g.W.Meant.meaning c.args.work.now in
    let t = c.phases.inside.phases in
    let can : CanTake m t = subst (CanTake m) (sym c.phases.view_is) c.requires.phases in
    let parts = c.in_ok-parts.parts.items in
    let words = all_words c.fill_alone-2.new.words.parts.items in
    let lots : length parts ≡ t.ranges = omega (arith, c.in_ok-parts.ensures.count) in
    let stop = (filled_cut m t 0 0 parts (first_begins m t) c.in_ok-parts.ensures.filled).1 in
    let count : length words ≡ cell_total m =
    omega (arith, c.fill_alone-2.ensures.count, stop, lots_end m t (length parts) can lots) in record {
      last = subst (AreLast m) (sym c.in_parts.ensures.words)
          (ends m t words c.fill_alone-2.ensures.filled count);
    }
