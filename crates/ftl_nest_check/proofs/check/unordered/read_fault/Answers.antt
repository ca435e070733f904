use Rattle.std.proofs.Common.{◌≡◌, sym, ◌∙◌, ap, None, Some, if◌then◌else◌}
use Rattle.ftl_order.specs.orders.Ordered.{visit_place}
use Rattle.ftl_order.specs.declared.dependencies.dep_read.DepRead.{DepRead}
use Rattle.ftl_order.specs.declared.faults.fault.VerifyFault.TheVariants.{Unordered}
use Rattle.ftl_deps.specs.reads.Meant.{meant}
use Rattle.ftl_schedule.specs.check.RuleAt.{rule_at}
use Rattle.ftl_schedule.proofs.check.RuleCount.{place_in_row, row_in, writer_known}
use Rattle.ftl_nests.specs.Nests.{nest_placing_of}
use Rattle.ftl_regions.specs.pairs.NestReads.{is_nest_ordered}
use Rattle.ftl_nest_check.specs.stages.Nested.{nests_of}
use Rattle.ftl_nest_check.proofs.check.NestRules.{by_nest_writer, no_nest_writer}
use Rattle.ftl_nest_check.proofs.check.unordered.read_fault.Goals as goal

pub first_writer-requires-clause-within : goal.first_writer-requires-clause-within
first_writer-requires-clause-within c =
    row_in c.args.checked.now c.grammar.ensures.lawful c.args.rule c.requires.within c.args.deps.now c.requires.table

pub first_writer-requires-clause-place : goal.first_writer-requires-clause-place
first_writer-requires-clause-place c =
    place_in_row c.args.checked.now c.grammar.ensures.lawful c.args.rule c.requires.within c.args.deps.now
    c.requires.table c.args.place c.requires.place

pub fault_of-requires-clause-writer : goal.fault_of-requires-clause-writer
fault_of-requires-clause-writer c =
    writer_known c.args.checked.now c.grammar.ensures.lawful c.args.rule c.requires.within c.args.deps.now
    c.requires.table c.args.place c.requires.place c.in-Some.writer (sym c.first_writer.ensures.writer ∙ c.in-Some.is)

pub returns-in-Some : goal.returns-in-Some
returns-in-Some c =
    let at = nest_placing_of (nests_of c.args.placed.now) in
    let g = meant c.args.checked.now in
    record {
      fault = c.fault_of.ensures.fault
          ∙ ap (λ (d : DepRead). if is_nest_ordered at d (visit_place g (rule_at g c.in-Some.writer))
          (visit_place g (rule_at g c.args.rule)) then None else Some (Unordered c.args.rule c.in-Some.writer))
          c.read_of-read.ensures.read
          ∙ sym (by_nest_writer c.args.checked.now c.grammar.ensures.lawful c.args.rule c.requires.within c.args.deps.now
          c.requires.table c.args.place c.requires.place at c.in-Some.writer
          (sym c.first_writer.ensures.writer ∙ c.in-Some.is));
    }

pub returns-in-None : goal.returns-in-None
returns-in-None c = record {
  fault = sym (no_nest_writer c.args.checked.now c.grammar.ensures.lawful c.args.rule c.requires.within c.args.deps.now
      c.requires.table c.args.place c.requires.place (nest_placing_of (nests_of c.args.placed.now))
      (sym c.first_writer.ensures.writer ∙ c.in-None.is));
}
