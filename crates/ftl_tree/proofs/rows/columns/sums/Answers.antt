use Rattle.std.proofs.Common.{◌≡◌, ◌+◌, ◌++◌, ◌∷◌, [], ap₂, arith, get_or, sum, take, sym, ◌∙◌}
use Rattle.ftl_tree.proofs.rows.KidRows.{sum-next, sums_from-next}
use Rattle.ftl_tree.proofs.rows.columns.sums.Goals as goal

pub loop-number-preserved : goal.loop-number-preserved
loop-number-preserved c =
    let xs = c.args.numbers.now in
    let i = c.loop-number.number-index in
    let more : c.loop-number.sum + get_or xs i 0 ≡ (0 + sum (take i xs)) + get_or xs i 0 = omega (arith, c.loop-number.invariant.total) in
    record {
      sums =
          c.in_ok-push-2.ensures.items
          ∙ ap₂ (λ ys m. ys ++ m ∷ []) c.loop-number.invariant.sums more
          ∙ sym (sums_from-next 0 xs i c.loop-number-test.true);
      total = omega (arith, c.loop-number.invariant.total, sum-next xs i c.loop-number-test.true);
    }
