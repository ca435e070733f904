use Rattle.std.proofs.Common.{arith, refl, true, sym, ap, ◌∙◌}
use Rattle.std.proofs.lemmas.Bool.{both_ways}
use Rattle.std.specs.FinSet as set
use Rattle.ftl_noncircular.proofs.walks.LedRows.{closed_with, closed_without, done_leads, new_known, new_led}
use Rattle.ftl_noncircular.proofs.walks.LedRows.{spread_exact}
use Rattle.ftl_noncircular.proofs.walks.table.lead_on.Goals as goal

pub has-leads-requires : goal.has-leads-requires
has-leads-requires c = record { bit = omega (arith, c.requires.from, c.size-few.ensures.few) }

pub has-there-requires : goal.has-there-requires
has-there-requires c = record { bit = omega (arith, c.requires.to, c.size-few.ensures.few) }

pub put-requires : goal.put-requires
put-requires c = record { bit = omega (arith, c.requires.to, c.size-few.ensures.few) }

pub spread-requires-clause-row : goal.spread-requires-clause-row
spread-requires-clause-row c =
    new_known c.args.edges.now c.args.row.now c.args.from c.args.to c.requires.nearly.closed c.put.new.self
    c.put.ensures.added c.requires.to c.requires.nearly.known

pub spread-requires-clause-done : goal.spread-requires-clause-done
spread-requires-clause-done c =
    done_leads c.args.edges.now c.args.row.now c.args.from c.args.to c.requires.nearly.closed c.put.new.self
    c.put.ensures.added c.union_into.new.self
    (c.union_into.ensures.joined ∙ ap (λ s. set.union s c.args.row.now) c.empty-done.ensures.none)

pub returns-then-not-leads : goal.returns-then-not-leads
returns-then-not-leads c = record {
  same = λ e. refl;
  exact = λ start known led. record {
    here = led.here;
    closed =
        closed_without c.args.edges.now c.args.row.now c.args.from c.args.to c.requires.nearly.closed
        (sym c.has-leads.ensures.member ∙ c.if-not-leads.true);
    led = led.led;
    known = known;
  };
}

pub returns-then-there : goal.returns-then-there
returns-then-there c = record {
  same = λ e. refl;
  exact = λ start known led. record {
    here = led.here;
    closed =
        closed_with c.args.edges.now c.args.row.now c.args.from c.args.to c.requires.nearly.closed
        (sym c.has-there.ensures.member ∙ c.if-there.true);
    led = led.led;
    known = known;
  };
}

pub returns : goal.returns
returns c = record {
  same = λ e. absurd (both_ways true e refl);
  exact = λ start known led.
      spread_exact c.args.edges.now start c.put.new.self c.spread.new.row known
      (new_led c.args.edges.now c.args.row.now c.args.from c.args.to c.requires.nearly.closed c.put.new.self
      c.put.ensures.added c.requires.entry (sym c.has-leads.ensures.member ∙ c.if-not-leads.false) start led)
      c.spread.ensures.kept c.spread.ensures.closed c.spread.ensures.led;
}
