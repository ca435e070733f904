use Rattle.std.proofs.Common.{refl}
use Rattle.std.proofs.lemmas.Option.{slice_get_read}
use Rattle.ftl_plan.proofs.plans.KeptKinds.{kinds_are}
use Rattle.ftl_plan.proofs.plans.phases.place_of.Goals as goal

pub loop-place-init : goal.loop-place-init
loop-place-init c = tt

pub returns-then-is_for : goal.returns-then-is_for
returns-then-is_for c =
    let k = c.index-kept-place.result in
    record {
      place = record {
        of = k;
        here = slice_get_read c.args.kept.now _ c.loop-place.place k refl c.loop-place-test.true c.index-kept-place.is;
        kinds_are = kinds_are k.kinds.items c.args.items.passes.now (c.is_for.ensures.kinds c.if-is_for.true);
        hosts_are = c.is_for.ensures.hosts c.if-is_for.true;
      };
    }

pub loop-place-preserved : goal.loop-place-preserved
loop-place-preserved c = tt
