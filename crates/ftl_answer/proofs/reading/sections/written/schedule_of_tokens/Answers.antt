use Rattle.ftl_answer.proofs.reading.sections.written.schedule_of_tokens.Goals as goal

pub verified-requires : goal.verified-requires
verified-requires c =
    let read = c.in-Ok.ensures in
    record { may = record { computed = read.computed; limits = read.limits; kept = read.kept } }
