use Rattle.std.proofs.Common.{◌<◌, Ok, ap, sym, subst, ◌∙◌}
use Rattle.ftl_deps.specs.reads.Meant.{meant}
use Rattle.ftl_schedule.proofs.check.AcceptedLaws.{lawful_of}
use Rattle.ftl_nests.specs.Nests.{IsNestOrdered}
use Rattle.ftl_nest_check.specs.stages.Nested.{nests_of}
use Rattle.ftl_nest_check.specs.declared.stages.types.NestingSchedule.{NestingSchedule}
use Rattle.ftl_nest_check.proofs.check.NestFaults.{is_nest_accepted, passes}
use Rattle.ftl_nest_check.proofs.check.check.verify_nests.Goals as goal

-- the entries are attributes of the grammar
pub new-requires : goal.new-requires
new-requires c =
    record {
      known = λ a there. subst (λ m. a < m) (sym c.attribute_count.ensures.count) (c.requires.may.computed a there).0;
    }

-- the schedule that was looked at is ordered
pub with_flat-requires : goal.with_flat-requires
with_flat-requires c =
    let checked = c.args.checked.now in
    let law = lawful_of checked c.grammar.ensures.lawful c.grammar.ensures.kinds in
    record {
      accepted =
          is_nest_accepted checked c.args.schedule c.in_ok-placed.placed c.in_ok-placed.ensures.exact c.requires.may law
          (sym c.later_fault.ensures.fault ∙ c.in-None.is);
    }

-- it is the one that is answered
pub returns-clause-exact : goal.returns-clause-exact
returns-clause-exact c =
    passes (meant c.args.checked.now) c.args.schedule c.in_ok-placed.placed c.in_ok-placed.ensures.exact
    (sym c.later_fault.ensures.fault ∙ c.in-None.is)
    ∙ ap Ok (sym c.in_ok-accepted-in-None.ensures.schedule)

pub returns-clause-one_table : goal.returns-clause-one_table
returns-clause-one_table c =
    let checked = c.args.checked.now in
    let law = lawful_of checked c.grammar.ensures.lawful c.grammar.ensures.kinds in
    let p = c.in_ok-placed.placed in
    let accepted =
    is_nest_accepted checked c.args.schedule p c.in_ok-placed.ensures.exact c.requires.may law
    (sym c.later_fault.ensures.fault ∙ c.in-None.is) in
    let ordered =
    subst (λ (x : NestingSchedule). IsNestOrdered (meant checked) (nests_of x))
    (sym c.in_ok-accepted-in-None.ensures.schedule) accepted.ordered in
    λ t fits.
    c.legal_orders_with_nests.ensures.one_table (meant checked) (nests_of c.in_ok-accepted-in-None.accepted.schedule) t law
    ordered fits

pub returns-clause-legal_order : goal.returns-clause-legal_order
returns-clause-legal_order c =
    let checked = c.args.checked.now in
    let law = lawful_of checked c.grammar.ensures.lawful c.grammar.ensures.kinds in
    let p = c.in_ok-placed.placed in
    let accepted =
    is_nest_accepted checked c.args.schedule p c.in_ok-placed.ensures.exact c.requires.may law
    (sym c.later_fault.ensures.fault ∙ c.in-None.is) in
    let ordered =
    subst (λ (x : NestingSchedule). IsNestOrdered (meant checked) (nests_of x))
    (sym c.in_ok-accepted-in-None.ensures.schedule) accepted.ordered in
    λ t fits.
    c.legal_orders_with_nests.ensures.exists (meant checked) (nests_of c.in_ok-accepted-in-None.accepted.schedule) t law
    ordered fits

pub returns-clause-writers_before : goal.returns-clause-writers_before
returns-clause-writers_before c =
    let checked = c.args.checked.now in
    let law = lawful_of checked c.grammar.ensures.lawful c.grammar.ensures.kinds in
    let p = c.in_ok-placed.placed in
    let accepted =
    is_nest_accepted checked c.args.schedule p c.in_ok-placed.ensures.exact c.requires.may law
    (sym c.later_fault.ensures.fault ∙ c.in-None.is) in
    let ordered =
    subst (λ (x : NestingSchedule). IsNestOrdered (meant checked) (nests_of x))
    (sym c.in_ok-accepted-in-None.ensures.schedule) accepted.ordered in
    λ t fits.
    c.legal_orders_with_nests.ensures.before (meant checked) (nests_of c.in_ok-accepted-in-None.accepted.schedule) t law
    ordered fits

pub returns-clause-runs : goal.returns-clause-runs
returns-clause-runs c =
    let checked = c.args.checked.now in
    let law = lawful_of checked c.grammar.ensures.lawful c.grammar.ensures.kinds in
    let p = c.in_ok-placed.placed in
    let accepted =
    is_nest_accepted checked c.args.schedule p c.in_ok-placed.ensures.exact c.requires.may law
    (sym c.later_fault.ensures.fault ∙ c.in-None.is) in
    let ordered =
    subst (λ (x : NestingSchedule). IsNestOrdered (meant checked) (nests_of x))
    (sym c.in_ok-accepted-in-None.ensures.schedule) accepted.ordered in
    λ t fits.
    c.legal_orders_with_nests.ensures.solves (meant checked) (nests_of c.in_ok-accepted-in-None.accepted.schedule) t law
    ordered fits
