use Rattle.std.proofs.Common.{◌≡◌, ◌<◌, ◌≤◌, ℕ, List, length, max, subst, sym, take, arith}
use Rattle.std.proofs.lemmas.Grind.{common_steps}
use Rattle.std.proofs.lemmas.List.{take_all}
use Rattle.std.proofs.lemmas.List.Elements.{All-more, All-same, All-weaker}
use Rattle.ftl_step_value.proofs.limits.faults.bound.greatest_width.Goals as goal

pub loop-row-preserved : goal.loop-row-preserved
loop-row-preserved c =
    let rows = c.args.rows.now in
    let at = c.loop-row.row-index in
    let row = c.row-item.result in
    let old = c.loop-row.widest in
    let new = c.max-widest.result in
    let below : at < length rows = c.loop-row-test.true in
    let greater : new ≡ max old c.len.result = grind (arith, common_steps) in
    let long : c.len.result ≡ length row = c.len.ensures in
    let short = c.requires.narrow at row below in
    let is = c.row-item.is in
    let here : length row ≤ new = omega (arith, greater, long) in
    record {
      within =
          All-more (λ (r : List ℕ). length r ≤ new) rows at row below
          (All-weaker (λ (r : List ℕ). length r ≤ old) (λ (r : List ℕ). length r ≤ new)
          (λ r low. omega (arith, low, greater)) (take at rows) c.loop-row.invariant.within)
          (subst (λ (r : List ℕ). length r ≤ new) is here);
      narrow = grind (arith, greater, long, short, is, c.loop-row.invariant.narrow);
    }

pub returns-clause-within : goal.returns-clause-within
returns-clause-within c =
    let rows = c.args.rows.now in
    let at = c.loop-row.row-index in
    All-same (λ (r : List ℕ). length r ≤ c.loop-row.widest) rows (take at rows)
    (sym (take_all at rows (omega (arith, c.loop-row-test.false)))) c.loop-row.invariant.within
