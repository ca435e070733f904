use Rattle.std.proofs.Common.{arith, ◌<◌, length}
use Rattle.std.proofs.lemmas.Grind.{common_steps}
use Rattle.ftl_order.specs.dependencies.Writers.{first_writer}
use Rattle.ftl_deps.specs.reads.Meant.{meant}
use Rattle.ftl_deps.proofs.reads.WriterRows.{row_step}
use Rattle.ftl_deps.proofs.reads.dep_writers.row_writers.Goals as goal

pub loop-place-preserved : goal.loop-place-preserved
loop-place-preserved c =
    let xs = c.args.reads.now in
    let i = c.loop-place.place in
    let within : i < length xs = grind (arith, common_steps) in
    let step = row_step (first_writer (meant c.args.checked.now) c.args.class) xs i _ c.writer_of.result
    c.writer_of.ensures.writer within in
    grind (arith, common_steps)
