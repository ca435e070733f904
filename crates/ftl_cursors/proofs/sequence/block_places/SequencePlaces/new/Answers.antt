use Rattle.std.proofs.Common.{◌<◌, length, arith}
use Rattle.ftl_cursors.proofs.sequence.PlaceTable.{added_more}
use Rattle.ftl_cursors.proofs.sequence.block_places.SequencePlaces.new.Goals as goal

pub loop-class-preserved : goal.loop-class-preserved
loop-class-preserved c =
    let visits = c.args.visits.now in
    let class = c.loop-class.class in
    let known : class < length visits = omega (arith, c.class_count-class-end.ensures.count, c.requires.visits) in
    added_more visits class c.loop-class.starts.items c.add_run.new.starts.items c.loop-class.places.items
    c.add_run.new.places.items c.visit.result.now known c.loop-class.invariant c.in_ok-add_run.ensures.cut
    c.in_ok-add_run.ensures.added c.visit.ensures.visit
