use Rattle.std.proofs.Common.{◌≡◌, ◌<◌, refl, sym, subst}
use Rattle.ftl_nest_check.proofs.check.MemoryAlone.{given_is, memory_alone}
use Rattle.ftl_nest_check.specs.declared.stages.types.NestingSchedule.{NestingSchedule}
use Rattle.ftl_nest_check.specs.places.NestPlaced.{without_twice}
use Rattle.ftl_answer.proofs.reading.requests.PlacedPairs.{none_twice}
use Rattle.ftl_answer.proofs.reading.requests.explained.placed_pair.Goals as goal

-- the entries are attributes of the grammar
pub new-requires : goal.new-requires
new-requires c =
    record {
      known = λ a there. subst (λ m. a < m) (sym c.attribute_count.ensures.count) (c.requires.may.computed a there).0;
    }

-- none has two
pub returns : goal.returns
returns c =
    let s = c.args.schedule in
    let once = none_twice c.args.checked.now s c.requires.pair in
    record {
      schedule =
          given_is s (without_twice s) c.new.result (λ (p : NestingSchedule). p ≡ s) once c.new.ensures.exact refl;
      memory = memory_alone s (without_twice s) c.new.result once c.new.ensures.exact;
    }
