use Rattle.std.proofs.Common.{◌≡◌, Bool, None, Some, true, false, if◌then◌else◌, ap, sym, ◌∙◌}
use Rattle.ftl_model.specs.layout.AttributeGrammar.{AttributeGrammar, RuleName}
use Rattle.ftl_deps.specs.reads.Meant.{meant}
use Rattle.ftl_order.specs.declared.dependencies.dep_read.DepRead.{DepRead}
use Rattle.ftl_order.specs.dependencies.DepReads.{rule_reads}
use Rattle.ftl_regions.specs.pairs.NestReads.{is_nest_ordered}
use Rattle.ftl_order.specs.declared.faults.fault.VerifyFault.TheVariants.{Unordered}
use Rattle.ftl_order.specs.orders.Ordered.{visit_place}
use Rattle.ftl_nests.specs.Nests.{NestPlacing, nest_placing_of}
use Rattle.ftl_schedule.specs.check.RuleAt.{read_at, rule_at}
use Rattle.ftl_nest_check.specs.stages.Nested.{nests_of}
use Rattle.ftl_schedule.proofs.check.RuleCount.{place_in_row, row_in, writer_known}
use Rattle.ftl_nest_check.proofs.check.NestRules.{by_nest_writer, no_nest_writer}
use Rattle.ftl_example.specs.nests.pairs.FirstRefused.{late_writer}
use Rattle.ftl_example.proofs.pairs.FirstPairs.{no_fault, some_fault}
use Rattle.ftl_example.proofs.nests.pairs.first_read.writer_too_late.Goals as goal

-- what is known of the read at hand is known of the read at the place
ordered : (g : AttributeGrammar) (at : NestPlacing) (d e : DepRead) (v w : RuleName) (told b : Bool) → d ≡ e
    → told ≡ is_nest_ordered at d (visit_place g v) (visit_place g w) → told ≡ b
    → is_nest_ordered at e (visit_place g v) (visit_place g w) ≡ b
ordered g at d e v w told b same is h = ap (λ x. is_nest_ordered at x (visit_place g v) (visit_place g w)) (sym same) ∙ sym is ∙ h

pub first_writer-requires-clause-within : goal.first_writer-requires-clause-within
first_writer-requires-clause-within c =
    row_in c.args.checked.now c.grammar.ensures.lawful c.args.rule c.requires.within c.args.deps.now c.requires.table

pub first_writer-requires-clause-place : goal.first_writer-requires-clause-place
first_writer-requires-clause-place c =
    place_in_row c.args.checked.now c.grammar.ensures.lawful c.args.rule c.requires.within c.args.deps.now
    c.requires.table c.args.place c.requires.place

pub is_ordered-requires-clause-writer : goal.is_ordered-requires-clause-writer
is_ordered-requires-clause-writer c =
    writer_known c.args.checked.now c.grammar.ensures.lawful c.args.rule c.requires.within c.args.deps.now
    c.requires.table c.args.place c.requires.place c.in-Some.writer (sym c.first_writer.ensures.writer ∙ c.in-Some.is)

pub returns-then-is_ordered : goal.returns-then-is_ordered
returns-then-is_ordered c =
    let at = nest_placing_of (nests_of c.args.placed.now) in
    let g = meant c.args.checked.now in
    record {
      writer =
          sym
          (no_fault c.args.rule (late_writer g at c.args.rule c.args.place)
          (by_nest_writer c.args.checked.now c.grammar.ensures.lawful c.args.rule c.requires.within c.args.deps.now
          c.requires.table c.args.place c.requires.place at c.in-Some.writer
          (sym c.first_writer.ensures.writer ∙ c.in-Some.is)
          ∙ ap (λ b. if b then None else Some (Unordered c.args.rule c.in-Some.writer))
          (ordered g at c.read_of-read.result (read_at (rule_reads g (rule_at g c.args.rule)) c.args.place)
          (rule_at g c.in-Some.writer) (rule_at g c.args.rule) c.is_ordered.result true c.read_of-read.ensures.read
          c.is_ordered.ensures.ordered c.if-is_ordered.true)));
    }

pub returns-else-is_ordered : goal.returns-else-is_ordered
returns-else-is_ordered c =
    let at = nest_placing_of (nests_of c.args.placed.now) in
    let g = meant c.args.checked.now in
    record {
      writer =
          sym
          (some_fault c.args.rule (late_writer g at c.args.rule c.args.place) c.args.rule c.in-Some.writer
          (by_nest_writer c.args.checked.now c.grammar.ensures.lawful c.args.rule c.requires.within c.args.deps.now
          c.requires.table c.args.place c.requires.place at c.in-Some.writer
          (sym c.first_writer.ensures.writer ∙ c.in-Some.is)
          ∙ ap (λ b. if b then None else Some (Unordered c.args.rule c.in-Some.writer))
          (ordered g at c.read_of-read.result (read_at (rule_reads g (rule_at g c.args.rule)) c.args.place)
          (rule_at g c.in-Some.writer) (rule_at g c.args.rule) c.is_ordered.result false c.read_of-read.ensures.read
          c.is_ordered.ensures.ordered c.if-is_ordered.false))).0;
    }

pub returns-in-None : goal.returns-in-None
returns-in-None c =
    let at = nest_placing_of (nests_of c.args.placed.now) in
    let g = meant c.args.checked.now in
    record {
      writer =
          sym
          (no_fault c.args.rule (late_writer g at c.args.rule c.args.place)
          (no_nest_writer c.args.checked.now c.grammar.ensures.lawful c.args.rule c.requires.within c.args.deps.now
          c.requires.table c.args.place c.requires.place at (sym c.first_writer.ensures.writer ∙ c.in-None.is)));
    }
