use Rattle.std.proofs.Common.{arith, refl, sym, subst, ◌∙◌, ◌<◌, length}
use Rattle.std.specs.FinSet as set
use Rattle.lane_rows.proofs.Rows.{get_or-any}
use Rattle.ftl_noncircular.specs.walks.WalkTables.{IsLedFrom, IsNearly}
use Rattle.ftl_noncircular.proofs.walks.LedTables.{led_none, led_more}
use Rattle.std.proofs.lemmas.Bool.{both_ways}
use Rattle.ftl_noncircular.proofs.walks.table.lead_all_on.Goals as goal
use Rattle.ftl_noncircular.proofs.walks.table.lead_all_on.Goals.{then-changed, else-changed}

pub loop-row-init : goal.loop-row-init
loop-row-init c = led_none c.args.edges.now c.args.rows.now

pub lead_on-more-requires-clause-nearly : goal.lead_on-more-requires-clause-nearly
lead_on-more-requires-clause-nearly c =
    let within : c.loop-row.row < length c.loop-row.rows = omega (arith, c.loop-row-test.true, c.loop-row.auto.rows) in
    subst (IsNearly c.args.edges.now c.args.from c.args.to)
    (sym (get_or-any c.loop-row.rows c.loop-row.row c.index-rows-row.result set.empty within
    ∙ c.loop-row.invariant.rest c.loop-row.row (omega arith)))
    (c.requires.nearly c.loop-row.row c.loop-row-test.true)

pub loop-row-preserved : goal.loop-row-preserved
loop-row-preserved c =
    let within : c.loop-row.row < length c.loop-row.rows = omega (arith, c.loop-row-test.true, c.loop-row.auto.rows) in
    led_more c.args.edges.now c.args.rows.now c.loop-row.rows c.loop-row.row c.lead_on-more.new.row c.loop-row.changed
    c.if-changed.changed c.loop-row.invariant within
    (λ e. elim c.if-changed.branch [
      | then-changed w ↦ absurd (both_ways c.if-changed.changed e (w.changed-is ∙ w.if-changed.true))
      | else-changed w ↦ (
        w.if-changed.false,
        c.lead_on-more.ensures.same (sym w.changed-is ∙ e)
            ∙ get_or-any c.loop-row.rows c.loop-row.row c.index-rows-row.result set.empty within
            ∙ refl,
      )
    ])
    (λ start known led. c.lead_on-more.ensures.exact start known
    (subst (IsLedFrom c.args.edges.now start)
    (get_or-any c.loop-row.rows c.loop-row.row set.empty c.index-rows-row.result within) led))
