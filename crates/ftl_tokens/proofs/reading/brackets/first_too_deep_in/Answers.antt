use Rattle.std.proofs.Common.{◌<◌, ◌-◌, ◌≤◌, arith}
use Rattle.ftl_tokens.proofs.reading.ShallowLemmas.{counted-start, counted-more, too_deep-here}
use Rattle.ftl_tokens.proofs.reading.brackets.first_too_deep_in.Goals as goal

pub loop-token-init : goal.loop-token-init
loop-token-init c = counted-start _ _ _

pub returns-then-saturating_sub-limit : goal.returns-then-saturating_sub-limit
returns-then-saturating_sub-limit c = record {
  first =
      let many : c.args.limit < c.counted-opened.result - c.counted-closed.result = omega arith in
      too_deep-here _ _ c.args.limit c.args.scanned.now c.list-token-items.result.now c.list-token-items.ensures.list
      c.loop-token.token-index _ _ _ c.loop-token.invariant c.loop-token-test.true _ _ c.counted-opened.ensures.count c.counted-closed.ensures.count many;
}

pub loop-token-preserved : goal.loop-token-preserved
loop-token-preserved c =
    let few : c.counted-opened.result - c.counted-closed.result ≤ c.args.limit = omega arith in
    counted-more _ _ c.args.limit c.args.scanned.now c.list-token-items.result.now c.list-token-items.ensures.list
    c.loop-token.token-index _ _ _ c.loop-token.invariant c.loop-token-test.true _ _ c.counted-opened.ensures.count c.counted-closed.ensures.count few
