use Rattle.std.proofs.Common.{◌≡◌, ◌<◌, sym, ◌∙◌, ap, ap₂, subst}
use Rattle.ftl_order.specs.orders.Ordered.{VisitPlace, visit_place}
use Rattle.ftl_schedule.specs.stages.Stages.{kind_of}
use Rattle.ftl_order.specs.dependencies.DepReads.{rule_reads}
use Rattle.ftl_deps.specs.reads.Meant.{meant}
use Rattle.ftl_schedule.specs.places.Standing.{visit_place_meant}
use Rattle.ftl_schedule.specs.check.RuleAt.{read_at, rule_at}
use Rattle.ftl_schedule.proofs.check.RuleCount.{place_in_row, row_in, rules_counted, writer_known}
use Rattle.ftl_scheduler.specs.outcomes.Constraint.{constraint_of}
use Rattle.ftl_scheduler.specs.finding.Entered.{AreOfSize, IsEntered, constraint_meant}
use Rattle.ftl_scheduler.proofs.finding.Entering.{entered_more, entered_nothing}
use Rattle.ftl_scheduler.proofs.finding.Targets.{first_found, rule_computed}
use Rattle.ftl_scheduler.proofs.finding.tables.enter_read.Goals as goal

pub first_writer-requires-clause-within : goal.first_writer-requires-clause-within
first_writer-requires-clause-within c = row_in c.args.checked.now c.grammar.ensures.lawful c.args.rule c.requires.within c.args.deps.now c.requires.table

pub first_writer-requires-clause-place : goal.first_writer-requires-clause-place
first_writer-requires-clause-place c = place_in_row c.args.checked.now c.grammar.ensures.lawful c.args.rule c.requires.within c.args.deps.now c.requires.table c.args.place c.requires.place

pub standing-x-requires : goal.standing-x-requires
standing-x-requires c = record {
  within = writer_known c.args.checked.now c.grammar.ensures.lawful c.args.rule c.requires.within c.args.deps.now c.requires.table c.args.place c.requires.place c.in-Some.writer
      (sym c.first_writer.ensures.writer ∙ c.in-Some.is);
}

pub enter-requires-clause-writer : goal.enter-requires-clause-writer
enter-requires-clause-writer c =
    let known = writer_known c.args.checked.now c.grammar.ensures.lawful c.args.rule c.requires.within c.args.deps.now c.requires.table c.args.place c.requires.place c.in-Some.writer
    (sym c.first_writer.ensures.writer ∙ c.in-Some.is) in
    subst (λ m. c.standing-x.result.attr < m) (sym c.attribute_count.ensures.count)
    (subst (λ m. m < (meant c.args.checked.now).attribute_count)
    (sym (ap (λ (p : VisitPlace). p.attribute) c.standing-x.ensures.place))
    (rule_computed c.args.checked.now c.grammar.ensures.lawful c.grammar.ensures.kinds c.in-Some.writer known).0)

pub enter-requires-clause-reader : goal.enter-requires-clause-reader
enter-requires-clause-reader c =
    subst (λ m. c.standing-y.result.attr < m) (sym c.attribute_count.ensures.count)
    (subst (λ m. m < (meant c.args.checked.now).attribute_count)
    (sym (ap (λ (p : VisitPlace). p.attribute) c.standing-y.ensures.place))
    (rule_computed c.args.checked.now c.grammar.ensures.lawful c.grammar.ensures.kinds c.args.rule c.requires.within).0)

pub returns-in-Some : goal.returns-in-Some
returns-in-Some c = record {
  entered =
      let g = meant c.args.checked.now in
      let kind = kind_of c.args.kind in
      let x = visit_place g (rule_at g c.in-Some.writer) in
      let y = visit_place g (rule_at g c.args.rule) in
      let d = read_at (rule_reads g (rule_at g c.args.rule)) c.args.place in
      let asked : constraint_meant c.constraint_of-constraint.result ≡ constraint_of kind d x y =
      c.constraint_of-constraint.ensures.constraint
      ∙ ap (λ r. constraint_of kind r (visit_place_meant c.standing-x.result) (visit_place_meant c.standing-y.result)) c.read_of-read.ensures.read
      ∙ ap₂ (λ v w. constraint_of kind d v w) c.standing-x.ensures.place c.standing-y.ensures.place in
      let put : IsEntered (constraint_of kind d x y) c.args.constraints.now c.enter.new.constraints x.attribute y.attribute =
      subst (λ n. IsEntered n c.args.constraints.now c.enter.new.constraints x.attribute y.attribute) asked
      (subst (λ (p : VisitPlace). IsEntered (constraint_meant c.constraint_of-constraint.result) c.args.constraints.now c.enter.new.constraints p.attribute y.attribute)
      c.standing-x.ensures.place
      (subst (λ (p : VisitPlace). IsEntered (constraint_meant c.constraint_of-constraint.result) c.args.constraints.now c.enter.new.constraints c.standing-x.result.attr p.attribute)
      c.standing-y.ensures.place c.enter.ensures.entered)) in
      entered_more g kind c.args.constraints.now c.enter.new.constraints c.args.rule c.args.place c.in-Some.writer c.requires.entered
      (subst (λ m. c.args.rule < m) (rules_counted c.args.checked.now c.grammar.ensures.lawful) c.requires.within)
      c.requires.place
      (first_found c.args.checked.now c.grammar.ensures.lawful c.args.rule c.requires.within c.args.deps.now c.requires.table c.args.place c.requires.place
      ∙ sym c.first_writer.ensures.writer ∙ c.in-Some.is)
      (subst (AreOfSize c.enter.new.constraints) c.attribute_count.ensures.count c.enter.ensures.sized) put;
}

pub returns-in-None : goal.returns-in-None
returns-in-None c = record {
  entered =
      entered_nothing (meant c.args.checked.now) (kind_of c.args.kind) c.args.constraints.now c.args.rule c.args.place c.requires.entered
      (first_found c.args.checked.now c.grammar.ensures.lawful c.args.rule c.requires.within c.args.deps.now c.requires.table c.args.place c.requires.place
      ∙ sym c.first_writer.ensures.writer ∙ c.in-None.is);
}
