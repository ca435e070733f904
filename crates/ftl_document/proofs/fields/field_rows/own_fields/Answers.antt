use Rattle.std.proofs.Common.{◌+◌, subst, sym, List}
use Rattle.ftl_document.specs.fields.OwnFields.{inside}
use Rattle.ftl_document.specs.declared.fields.own_field.OwnField.{OwnField}
use Rattle.ftl_document.proofs.fields.RowSteps.{IsReached, reached_last, reached_more}
use Rattle.ftl_document.proofs.fields.field_rows.own_fields.Goals as goal

pub loop-at-preserved : goal.loop-at-preserved
loop-at-preserved c written is =
    let row = c.index-rows-at.result in
    let at = c.loop-at.at in
    let more =
    reached_more c.args.rows.now at c.loop-at.fields.items written row c.loop-at-test.true c.index-rows-at.is (c.loop-at.invariant written is) in
    subst (λ n. IsReached c.args.rows.now (at + (1 + n)) c.add_row.new.fields.items written) (sym c.in_ok-inside.ensures.inside)
    (subst (λ (fs : List OwnField). IsReached c.args.rows.now (at + (1 + inside row)) fs written) (sym c.in_ok-inside.ensures.added) more)

pub returns : goal.returns
returns c =
    record {
      fields = λ written is. reached_last c.args.rows.now c.loop-at.at c.loop-at.fields.items written c.loop-at-test.false (c.loop-at.invariant written is);
    }
