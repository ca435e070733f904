use Rattle.std.proofs.Common.{◌≡◌, Bool, None, Some, true, false, if◌then◌else◌, ap, sym, ◌∙◌}
use Rattle.ftl_model.specs.layout.AttributeGrammar.{AttributeGrammar, RuleName}
use Rattle.ftl_deps.specs.reads.Meant.{meant}
use Rattle.ftl_order.specs.declared.dependencies.dep_read.DepRead.{DepRead}
use Rattle.ftl_order.specs.dependencies.DepReads.{rule_reads}
use Rattle.ftl_order.specs.faults.OrderedReads.{is_ordered_read}
use Rattle.ftl_order.specs.declared.faults.fault.VerifyFault.TheVariants.{Unordered}
use Rattle.ftl_order.specs.orders.Schedule.{Placing, placing_of}
use Rattle.ftl_schedule.specs.check.RuleAt.{read_at, rule_at}
use Rattle.ftl_schedule.specs.stages.Stages.{stages_of}
use Rattle.ftl_schedule.proofs.check.RuleCount.{by_writer, no_writer, place_in_row, row_in, writer_known}
use Rattle.ftl_example.specs.pairs.FirstPlace.{late_writer}
use Rattle.ftl_example.proofs.pairs.FirstPairs.{no_fault, some_fault}
use Rattle.ftl_example.proofs.pairs.first_read.writer_too_late.Goals as goal

-- what is known of the read at hand is known of the read at the place
ordered : (g : AttributeGrammar) (at : Placing) (d e : DepRead) (v w : RuleName) (told b : Bool) → d ≡ e
    → told ≡ is_ordered_read g at d v w → told ≡ b → is_ordered_read g at e v w ≡ b
ordered g at d e v w told b same is h = ap (λ x. is_ordered_read g at x v w) (sym same) ∙ sym is ∙ h

pub first_writer-requires-clause-within : goal.first_writer-requires-clause-within
first_writer-requires-clause-within c =
    row_in c.args.checked.now c.grammar.ensures.lawful c.args.rule c.requires.within c.args.deps.now c.requires.table

pub first_writer-requires-clause-place : goal.first_writer-requires-clause-place
first_writer-requires-clause-place c =
    place_in_row c.args.checked.now c.grammar.ensures.lawful c.args.rule c.requires.within c.args.deps.now
    c.requires.table c.args.place c.requires.place

pub is_ordered-requires-clause-writer : goal.is_ordered-requires-clause-writer
is_ordered-requires-clause-writer c =
    writer_known c.args.checked.now c.grammar.ensures.lawful c.args.rule c.requires.within c.args.deps.now
    c.requires.table c.args.place c.requires.place c.in-Some.writer (sym c.first_writer.ensures.writer ∙ c.in-Some.is)

pub returns-then-is_ordered : goal.returns-then-is_ordered
returns-then-is_ordered c =
    let at = placing_of (stages_of c.args.placed.now) in
    let g = meant c.args.checked.now in
    record {
      writer =
          sym
          (no_fault c.args.rule (late_writer g at c.args.rule c.args.place)
          (by_writer c.args.checked.now c.grammar.ensures.lawful c.args.rule c.requires.within c.args.deps.now
          c.requires.table c.args.place c.requires.place at c.in-Some.writer
          (sym c.first_writer.ensures.writer ∙ c.in-Some.is)
          ∙ ap (λ b. if b then None else Some (Unordered c.args.rule c.in-Some.writer))
          (ordered g at c.read_of-read.result (read_at (rule_reads g (rule_at g c.args.rule)) c.args.place)
          (rule_at g c.in-Some.writer) (rule_at g c.args.rule) c.is_ordered.result true c.read_of-read.ensures.read
          c.is_ordered.ensures.ordered c.if-is_ordered.true)));
    }

pub returns-else-is_ordered : goal.returns-else-is_ordered
returns-else-is_ordered c =
    let at = placing_of (stages_of c.args.placed.now) in
    let g = meant c.args.checked.now in
    record {
      writer =
          sym
          (some_fault c.args.rule (late_writer g at c.args.rule c.args.place) c.args.rule c.in-Some.writer
          (by_writer c.args.checked.now c.grammar.ensures.lawful c.args.rule c.requires.within c.args.deps.now
          c.requires.table c.args.place c.requires.place at c.in-Some.writer
          (sym c.first_writer.ensures.writer ∙ c.in-Some.is)
          ∙ ap (λ b. if b then None else Some (Unordered c.args.rule c.in-Some.writer))
          (ordered g at c.read_of-read.result (read_at (rule_reads g (rule_at g c.args.rule)) c.args.place)
          (rule_at g c.in-Some.writer) (rule_at g c.args.rule) c.is_ordered.result false c.read_of-read.ensures.read
          c.is_ordered.ensures.ordered c.if-is_ordered.false))).0;
    }

pub returns-in-None : goal.returns-in-None
returns-in-None c =
    let at = placing_of (stages_of c.args.placed.now) in
    let g = meant c.args.checked.now in
    record {
      writer =
          sym
          (no_fault c.args.rule (late_writer g at c.args.rule c.args.place)
          (no_writer c.args.checked.now c.grammar.ensures.lawful c.args.rule c.requires.within c.args.deps.now
          c.requires.table c.args.place c.requires.place at (sym c.first_writer.ensures.writer ∙ c.in-None.is)));
    }
