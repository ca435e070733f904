use Rattle.std.proofs.Common.{arith, ◌≡◌, ap, sym, ◌∙◌, length}
use Rattle.std.proofs.lemmas.Grind.{common_steps}
use Rattle.ftl_schedule.specs.stages.Stages.{stages_of}
use Rattle.ftl_schedule.proofs.places.PlacingOf.{found_or_past, no_schedule_place, place_found}
use Rattle.ftl_schedule.proofs.places.placed.Placed.schedule_place.Goals as goal

-- the look-up found the place of the entry
pub returns-in-Some : goal.returns-in-Some
returns-in-Some c =
    let s = c.args.self.now in
    record {
      schedule_place = ap (found_or_past (length (stages_of s))) (sym c.in-Some.is ∙ c.found.ensures.found) ∙ place_found s c.args.attr;
    }

-- there is no entry
pub returns-in-None : goal.returns-in-None
returns-in-None c =
    let s = c.args.self.now in
    let count : c.len.result ≡ length (stages_of s) = grind (arith, common_steps) in
    record {
      schedule_place =
          ap no_schedule_place count
          ∙ ap (found_or_past (length (stages_of s))) (sym c.in-None.is ∙ c.found.ensures.found)
          ∙ place_found s c.args.attr;
    }
