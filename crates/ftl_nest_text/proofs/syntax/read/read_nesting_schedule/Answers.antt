use Rattle.std.proofs.Common.{sym, ap, ◌∙◌}
use Rattle.ftl_nest_text.specs.syntax.NestReading.{nesting_schedule}
use Rattle.ftl_nest_text.proofs.syntax.NestSchedules.{is_spelled, is_no_schedule}
use Rattle.ftl_nest_text.proofs.syntax.read.read_nesting_schedule.Goals as goal

pub returns-in-Ok : goal.returns-in-Ok
returns-in-Ok c = record {
  answer =
      is_spelled _ _ c.in-Ok.schedule
      (sym (ap nesting_schedule c.new-input.ensures.tokens) ∙ c.in-Ok.ensures.reads);
}

-- the fault isn't that of memory
pub returns-in-Err-Refused : goal.returns-in-Err-Refused
returns-in-Err-Refused c = record {
  answer =
      let e = c.in-Err-Refused.ensures.reads (λ memory. cc (c.in-Err-Refused.field-0-is)) in
      is_no_schedule c.args.scanned.now c.nesting_schedule.new.input c.left.result c.place.result
      (sym (ap nesting_schedule c.new-input.ensures.tokens) ∙ e) c.left.ensures.count c.place.ensures.place;
}
