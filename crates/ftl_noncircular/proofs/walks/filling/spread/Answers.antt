use Rattle.std.proofs.Common.{refl, ap, arith}
use Rattle.std.specs.FinSet as set
use Rattle.ftl_noncircular.proofs.walks.FilledRows.{next_known, one_more, filled, all_filled}
use Rattle.ftl_noncircular.proofs.walks.filling.spread.Goals as goal

pub row-requires : goal.row-requires
row-requires c =
    record {
      from = next_known c.args.edges.now c.args.row.now c.loop-next.row c.loop-next.done c.loop-next.invariant
          c.in-Some.next
          c.in-Some.ensures.least;
    }

pub loop-next-smaller : goal.loop-next-smaller
loop-next-smaller c =
    let more = one_more c.args.edges.now c.args.row.now c.loop-next.row c.loop-next.done c.loop-next.invariant
    c.in-Some.next
    c.in-Some.ensures.least in
    let few = c.count-few-in-Some.ensures.few in
    let len = c.count-few-in-Some.ensures.numbers in
    let is = ap set.len c.put.ensures.added in
    omega (arith, more, few, len, is)

pub loop-next-preserved : goal.loop-next-preserved
loop-next-preserved c =
    filled c.args.edges.now c.args.row.now c.loop-next.row c.loop-next.done c.loop-next.invariant c.in-Some.next
    c.in-Some.ensures.least c.requires.ends c.put.new.self c.union_into.new.self c.row.result.now c.put.ensures.added
    (omega (arith, c.count-few-in-Some.ensures.few, c.count-few-in-Some.ensures.numbers)) c.row.ensures.row
    c.union_into.ensures.joined

pub returns-clause-closed : goal.returns-clause-closed
returns-clause-closed c =
    all_filled c.args.edges.now c.args.row.now c.loop-next.row c.loop-next.done c.loop-next.invariant
    (c.in_default.ensures.none.0 refl)
