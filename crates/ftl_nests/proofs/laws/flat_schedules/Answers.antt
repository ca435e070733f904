use Rattle.ftl_nests.specs.Flat.{flat_schedule, plain}
use Rattle.ftl_nests.proofs.FlatLaws.{flat_ordered}
use Rattle.ftl_nests.proofs.Plain.{plain_ordered, plain_ordered_back, plain_precedes, precedes_plain, work_plain}
use Rattle.ftl_nests.proofs.laws.flat_schedules.Goals as goal

pub returns : goal.returns
returns c = record {
  flat = λ g s law ordered. flat_ordered g s law ordered;
  plain = λ g s. (plain_ordered_back g s, plain_ordered g s);
  plain_steps = λ g s t i j. (precedes_plain g s t i j, plain_precedes g s t i j);
  plain_work = work_plain;
  nothing_added = λ g law. (
    (λ x. (flat_schedule x.0, flat_ordered g x.0 law x.1)),
    (λ x. (plain x.0, plain_ordered g x.0 x.1)),
  );
}
