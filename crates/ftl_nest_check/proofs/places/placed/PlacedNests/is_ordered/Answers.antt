use Rattle.ftl_schedule.specs.places.Standing.{visit_place_meant}
use Rattle.ftl_nests.specs.Nests.{nest_placing_of}
use Rattle.ftl_regions.proofs.pairs.NestTests.{test_tells}
use Rattle.ftl_nest_check.specs.stages.Nested.{nests_of}
use Rattle.ftl_nest_check.proofs.places.placed.PlacedNests.is_ordered.Goals as goal

pub returns-clause-pairs : goal.returns-clause-pairs
returns-clause-pairs c =
    test_tells (nest_placing_of (nests_of c.args.self.now)) c.args.read (visit_place_meant c.args.writer)
    (visit_place_meant c.args.reader) c.is_earlier.result c.is_earlier.ensures.told
