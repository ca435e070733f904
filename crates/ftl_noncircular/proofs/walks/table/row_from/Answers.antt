use Rattle.std.proofs.Common.{arith, ap, ◌∙◌}
use Rattle.std.specs.FinSet as set
use Rattle.ftl_noncircular.proofs.walks.LedRows.{none_leads, one_known, one_led, spread_exact}
use Rattle.ftl_noncircular.proofs.walks.table.row_from.Goals as goal

pub put-requires : goal.put-requires
put-requires c = record { bit = omega (arith, c.requires.start, c.size-few.ensures.few) }

pub spread-requires-clause-row : goal.spread-requires-clause-row
spread-requires-clause-row c =
    one_known c.args.edges.now c.put.new.self c.args.start c.requires.start
    (c.put.ensures.added ∙ ap (λ s. set.insert s c.args.start) c.empty-row.ensures.none)

pub spread-requires-clause-done : goal.spread-requires-clause-done
spread-requires-clause-done c = none_leads c.args.edges.now c.empty.result c.put.new.self c.empty.ensures.none

pub returns : goal.returns
returns c = record {
  exact =
      spread_exact c.args.edges.now c.args.start c.put.new.self c.spread.new.row c.requires.start
      (one_led c.args.edges.now c.put.new.self c.args.start
      (c.put.ensures.added ∙ ap (λ s. set.insert s c.args.start) c.empty-row.ensures.none))
      c.spread.ensures.kept c.spread.ensures.closed c.spread.ensures.led;
}
