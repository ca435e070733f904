use Rattle.std.proofs.Common.{refl, subst}
use Rattle.ftl_deps.specs.reads.Meant.{meant}
use Rattle.ftl_regions.specs.pairs.NestReads.{first_refused}
use Rattle.ftl_nests.specs.Nests.{nest_placing_of}
use Rattle.ftl_nest_check.specs.stages.Nested.{nests_of}
use Rattle.ftl_example.specs.nests.pairs.NestPair.{IsNestPairOf}
use Rattle.ftl_example.specs.pairs.PairMeant.{pair_meant}
use Rattle.ftl_example.proofs.pairs.FoundPair.{no_other, one_fault}
use Rattle.ftl_example.proofs.nests.pairs.FoundNestPair.{first_is, none_first}
use Rattle.ftl_example.proofs.nests.pairs.first_pair.first_pair.Goals as goal

pub returns-in_ok-pair_of-in-Some : goal.returns-in_ok-pair_of-in-Some
returns-in_ok-pair_of-in-Some c =
    let g = meant c.args.checked.now in
    let at = nest_placing_of (nests_of c.args.placed.now) in
    let f = c.in-Some.found in
    let p = c.in_ok-pair_of-in-Some.field-0 in
    record {
      pair = λ reader writer e.
          let same =
          one_fault f.reader f.writer reader writer (first_refused g at)
          (first_is g at f.reader f.place f.writer c.in-Some.ensures.found) e in (
            p,
            refl,
            c.in_ok-pair_of-in-Some.ensures.known,
            subst (λ n. IsNestPairOf g at n writer (pair_meant p)) same.0
                (subst (λ n. IsNestPairOf g at f.reader n (pair_meant p)) same.1 c.in_ok-pair_of-in-Some.ensures.pair),
          );
    }

pub returns-in-None : goal.returns-in-None
returns-in-None c =
    let g = meant c.args.checked.now in
    let at = nest_placing_of (nests_of c.args.placed.now) in
    record {
      pair = λ reader writer e.
          absurd
          (no_other (first_refused g at) reader writer (none_first g at (c.first_read.ensures.none c.in-None.is)) e);
    }
