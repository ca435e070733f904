use Rattle.std.proofs.Common.{◌≡◌, ◌<◌, ◌∙◌, ap, sym, subst, Contains, Ok}
use Rattle.ftl_deps.specs.reads.Meant.{meant}
use Rattle.ftl_order.specs.orders.Schedule.{Schedule, entries}
use Rattle.ftl_schedule.specs.check.AcceptedSchedule.{IsAccepted}
use Rattle.ftl_schedule.specs.places.Placed.{without_twice}
use Rattle.ftl_schedule.specs.stages.Stages.{stages_of}
use Rattle.ftl_schedule.specs.declared.stages.types.Schedule.{Schedule as FlatSchedule}
use Rattle.ftl_schedule.proofs.check.AcceptedLaws.{lawful_of}
use Rattle.ftl_nest_check.specs.check.WithoutNests.{without_nests}
use Rattle.ftl_nest_check.specs.stages.Nested.{nests_of}
use Rattle.ftl_nest_check.specs.declared.stages.types.NestingSchedule.{NestingSchedule}
use Rattle.ftl_nest_check.proofs.check.FlatAccepted.{accepted_without, computed_without, once_without}
use Rattle.ftl_nest_check.proofs.check.MemoryAlone.{given_is, memory_alone}
use Rattle.ftl_nest_check.proofs.check.flat_accepted.placed_without_nests.Goals as goal

-- the entries are attributes of the grammar
pub new-requires : goal.new-requires
new-requires c =
    let is : stages_of c.in_ok-flat.flat ≡ without_nests (nests_of c.args.placed.now) =
    c.in_ok-flat.ensures.stages
    ∙ ap (λ (s : NestingSchedule). without_nests (nests_of s)) c.schedule.ensures.schedule in
    record {
      known = λ a there.
          subst (λ m. a < m) (sym c.attribute_count.ensures.count)
          (computed_without (meant c.args.checked.now) (nests_of c.args.placed.now) c.requires.accepted.may.computed a
          (subst (λ (s : Schedule). Contains (entries s) a) is there)).0;
    }

-- none has two, so the places are those of the schedule, which may be accepted
pub returns : goal.returns
returns c =
    let checked = c.args.checked.now in
    let flat = c.in_ok-flat.flat in
    let is : stages_of flat ≡ without_nests (nests_of c.args.placed.now) =
    c.in_ok-flat.ensures.stages
    ∙ ap (λ (s : NestingSchedule). without_nests (nests_of s)) c.schedule.ensures.schedule in
    let accepted : IsAccepted checked flat =
    accepted_without checked c.args.placed.now flat
    (lawful_of checked c.grammar.ensures.lawful c.grammar.ensures.kinds) c.requires.accepted is in
    let once : without_twice flat ≡ Ok flat = once_without checked flat accepted in
    record {
      stages =
          given_is flat (without_twice flat) c.new.result
          (λ (p : FlatSchedule). stages_of p ≡ without_nests (nests_of c.args.placed.now)) once c.new.ensures.exact is;
      accepted =
          given_is flat (without_twice flat) c.new.result (IsAccepted checked) once c.new.ensures.exact accepted;
      memory = memory_alone flat (without_twice flat) c.new.result once c.new.ensures.exact;
    }
