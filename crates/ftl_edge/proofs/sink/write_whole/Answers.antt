use Rattle.std.proofs.Common.{arith}
use Rattle.std.proofs.lemmas.Result.{err_from_is_err_and}
use Rattle.ftl_edge.proofs.Writing.{HasAppended-none, HasAppended-more, HasAppended-failed, HasAppended-nothing}
use Rattle.ftl_edge.proofs.sink.write_whole.Goals as goal

pub loop-rest-init : goal.loop-rest-init
loop-rest-init g c = record { appended = HasAppended-none _ _; kept = omega arith }

pub loop-rest-preserved : goal.loop-rest-preserved
loop-rest-preserved g c =
    let before = c.loop-rest.invariant in
    let call = c.in_ok-count.ensures in
    record {
      appended = HasAppended-more _ _ _ _ _ c.in_ok-count.count before.appended call.bytes;
      kept = omega (arith, call.kept, before.kept);
    }

pub returns-in_err-count-clause-front : goal.returns-in_err-count-clause-front
returns-in_err-count-clause-front g c =
    let exit = err_from_is_err_and c.from_residual.result c.from_residual.ensures.1 in
    rw exit.1 (HasAppended-failed _ _ _ _ _ c.loop-rest.invariant.appended c.in_err-count.ensures.bytes)

pub returns-then-count-eq0-clause-front : goal.returns-then-count-eq0-clause-front
returns-then-count-eq0-clause-front g c =
    HasAppended-nothing _ _ _ _ _ _ c.loop-rest.invariant.appended c.in_ok-count.ensures.bytes c.if-count-eq0.true
