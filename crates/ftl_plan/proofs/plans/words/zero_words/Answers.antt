use Rattle.std.proofs.Common.{◌+◌, ◌*◌, ◌%◌, replicate, take, refl, arith}
use Rattle.std.proofs.lemmas.List.{take-replicate}
use Rattle.ftl_plan.proofs.plans.InputRows.{zeros_more}
use Rattle.ftl_plan.proofs.plans.words.zero_words.Goals as goal

pub loop-run-preserved : goal.loop-run-preserved
loop-run-preserved c =
    let runs = c.loop-run._run in
    zeros_more (runs * 256) 256 ((runs + 1) * 256) c.loop-run.words.items c.extend_from_slice.new.self.items
    (replicate 256 0) c.in_ok-extend_from_slice.ensures.items c.loop-run.invariant refl (omega arith)

pub returns : goal.returns
returns c =
    let count = c.args.count in
    let past = c.loop-run-test.false in
    let most = c.loop-run.auto._run-end in
    record {
      zeros =
          zeros_more (c.loop-run._run * 256) (count % 256) count c.loop-run.words.items
          c.extend_from_slice-2.new.self.items (take (count % 256) (replicate 256 0))
          c.in_ok-extend_from_slice-2.ensures.items c.loop-run.invariant
          (take-replicate (count % 256) 256 0 (omega arith)) (omega (arith, past, most));
    }
