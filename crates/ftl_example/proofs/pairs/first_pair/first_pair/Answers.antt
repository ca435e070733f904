use Rattle.std.proofs.Common.{refl, subst}
use Rattle.ftl_deps.specs.reads.Meant.{meant}
use Rattle.ftl_order.specs.faults.FirstFault.{first_unordered}
use Rattle.ftl_order.specs.orders.Schedule.{placing_of}
use Rattle.ftl_schedule.specs.stages.Stages.{stages_of}
use Rattle.ftl_example.specs.pairs.FirstPair.{IsPairOf}
use Rattle.ftl_example.specs.pairs.PairMeant.{pair_meant}
use Rattle.ftl_example.proofs.pairs.FoundPair.{first_is, no_other, none_first, one_fault}
use Rattle.ftl_example.proofs.pairs.first_pair.first_pair.Goals as goal

pub returns-in_ok-pair_of-in-Some : goal.returns-in_ok-pair_of-in-Some
returns-in_ok-pair_of-in-Some c =
    let g = meant c.args.checked.now in
    let at = placing_of (stages_of c.args.placed.now) in
    let f = c.in-Some.found in
    let p = c.in_ok-pair_of-in-Some.field-0 in
    record {
      pair = λ reader writer e.
          let same =
          one_fault f.reader f.writer reader writer (first_unordered g at)
          (first_is g at f.reader f.place f.writer c.in-Some.ensures.found) e in (
            p,
            refl,
            c.in_ok-pair_of-in-Some.ensures.known,
            subst (λ n. IsPairOf g at n writer (pair_meant p)) same.0
                (subst (λ n. IsPairOf g at f.reader n (pair_meant p)) same.1 c.in_ok-pair_of-in-Some.ensures.pair),
          );
    }

pub returns-in-None : goal.returns-in-None
returns-in-None c =
    let g = meant c.args.checked.now in
    let at = placing_of (stages_of c.args.placed.now) in
    record {
      pair = λ reader writer e.
          absurd
          (no_other (first_unordered g at) reader writer (none_first g at (c.first_read.ensures.none c.in-None.is)) e);
    }
