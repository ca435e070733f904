use Rattle.std.proofs.Common.{◌<◌, sym, subst, ◌∙◌}
use Rattle.ftl_order.specs.orders.Ordered.{IsOrdered}
use Rattle.ftl_schedule.specs.stages.Stages.{stages_of}
use Rattle.ftl_schedule.specs.declared.stages.types.Schedule.{Schedule}
use Rattle.ftl_deps.specs.reads.Meant.{meant}
use Rattle.ftl_schedule.proofs.check.AcceptedLaws.{accepted_legal_order, accepted_one_list, accepted_one_table}
use Rattle.ftl_schedule.proofs.check.AcceptedLaws.{accepted_writers_before, is_accepted, is_ordered, lawful_of, refused}
use Rattle.ftl_schedule.proofs.check.check.verify.Goals as goal

-- the entries are attributes of the grammar
pub new-requires : goal.new-requires
new-requires c = record {
  known = λ a there. subst (λ m. a < m) (sym c.attribute_count.ensures.count) (c.requires.computed a there).0;
}

-- the schedule that was looked at is ordered
pub new-requires-in-None : goal.new-requires-in-None
new-requires-in-None c =
    let checked = c.args.checked.now in
    let law = lawful_of checked c.grammar.ensures.lawful c.grammar.ensures.kinds in
    record {
      accepted =
          is_accepted checked c.args.schedule c.in_ok-placed.placed c.in_ok-placed.ensures.exact c.requires.computed
          c.requires.limits law (sym c.later_fault.ensures.fault ∙ c.in-None.is);
    }

-- the fault that is told is the first
pub returns-in-Some-clause-exact : goal.returns-in-Some-clause-exact
returns-in-Some-clause-exact c =
    λ other.
    refused (meant c.args.checked.now) c.args.schedule c.in_ok-placed.placed c.in_ok-placed.ensures.exact c.in-Some.fault
    (sym c.later_fault.ensures.fault ∙ c.in-Some.is)

pub returns-clause-one_table : goal.returns-clause-one_table
returns-clause-one_table c =
    let checked = c.args.checked.now in
    let none = c.grammar.ensures.lawful in
    let kinds = c.grammar.ensures.kinds in
    let ordered : IsOrdered (meant checked) (stages_of c.new-in-None.result.schedule) =
    subst (λ (x : Schedule). IsOrdered (meant checked) (stages_of x)) (sym c.new-in-None.ensures.schedule)
    (is_ordered (meant checked) c.args.schedule c.in_ok-placed.placed c.in_ok-placed.ensures.exact
    (lawful_of checked none kinds) (sym c.later_fault.ensures.fault ∙ c.in-None.is)) in
    accepted_one_table checked none kinds (stages_of c.new-in-None.result.schedule) ordered

pub returns-clause-one_list : goal.returns-clause-one_list
returns-clause-one_list c =
    let checked = c.args.checked.now in
    let none = c.grammar.ensures.lawful in
    let kinds = c.grammar.ensures.kinds in
    let ordered : IsOrdered (meant checked) (stages_of c.new-in-None.result.schedule) =
    subst (λ (x : Schedule). IsOrdered (meant checked) (stages_of x)) (sym c.new-in-None.ensures.schedule)
    (is_ordered (meant checked) c.args.schedule c.in_ok-placed.placed c.in_ok-placed.ensures.exact
    (lawful_of checked none kinds) (sym c.later_fault.ensures.fault ∙ c.in-None.is)) in
    accepted_one_list checked none kinds (stages_of c.new-in-None.result.schedule) ordered

pub returns-clause-legal_order : goal.returns-clause-legal_order
returns-clause-legal_order c =
    let checked = c.args.checked.now in
    let none = c.grammar.ensures.lawful in
    let kinds = c.grammar.ensures.kinds in
    let ordered : IsOrdered (meant checked) (stages_of c.new-in-None.result.schedule) =
    subst (λ (x : Schedule). IsOrdered (meant checked) (stages_of x)) (sym c.new-in-None.ensures.schedule)
    (is_ordered (meant checked) c.args.schedule c.in_ok-placed.placed c.in_ok-placed.ensures.exact
    (lawful_of checked none kinds) (sym c.later_fault.ensures.fault ∙ c.in-None.is)) in
    accepted_legal_order checked none kinds (stages_of c.new-in-None.result.schedule) ordered

pub returns-clause-writers_before : goal.returns-clause-writers_before
returns-clause-writers_before c =
    let checked = c.args.checked.now in
    let none = c.grammar.ensures.lawful in
    let kinds = c.grammar.ensures.kinds in
    let ordered : IsOrdered (meant checked) (stages_of c.new-in-None.result.schedule) =
    subst (λ (x : Schedule). IsOrdered (meant checked) (stages_of x)) (sym c.new-in-None.ensures.schedule)
    (is_ordered (meant checked) c.args.schedule c.in_ok-placed.placed c.in_ok-placed.ensures.exact
    (lawful_of checked none kinds) (sym c.later_fault.ensures.fault ∙ c.in-None.is)) in
    accepted_writers_before checked none kinds (stages_of c.new-in-None.result.schedule) ordered
