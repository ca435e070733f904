use Rattle.std.proofs.Common.{arith, ◌≤◌, length, inl, inr}
use Rattle.ftl_base.specs.Widths.{greatest_of_width}
use Rattle.ftl_tokens.specs.scanner.Tokenized.{symbols_of}
use Rattle.ftl_deps.specs.reads.Meant.{meant}
use Rattle.ftl_order.specs.faults.FaultLaws.{AreComputed}
use Rattle.ftl_schedule.specs.printing.WrittenOf.{AreStagesKnown}
use Rattle.ftl_schedule.specs.stages.PassLimits.{IsWithinPassLimits}
use Rattle.ftl_schedule.specs.stages.Stages.{stages_of}
use Rattle.ftl_schedule.proofs.printing.Known.{computed_known}
use Rattle.ftl_schedule.proofs.reading.Counted.{schedule_few}
use Rattle.ftl_schedule.proofs.reading.ReadComputed.{read_computed}
use Rattle.ftl_schedule.proofs.reading.ReadFrom.{if_read}
use Rattle.ftl_schedule.proofs.reading.ReadLimits.{read_limits}
use Rattle.ftl_schedule.proofs.reading.read.read_schedule.Goals as goal

-- there are no more passes than tokens, and no more of these than bytes
pub named-requires-clause-passes : goal.named-requires-clause-passes
named-requires-clause-passes c =
    let few : length (symbols_of c.args.scanned.now) ≤ length c.args.scanned.now.text =
    c.counts_of_spelled_grammars.ensures.tokens _ c.args.scanned.now c.list-tokens.ensures.tokens in
    let counted = (schedule_few c.in-Ok.ensures.answer).passes in
    let short = c.requires.short in
    omega (arith, few, counted, short)

-- nor stages
pub named-requires-clause-stages : goal.named-requires-clause-stages
named-requires-clause-stages c =
    let few : length (symbols_of c.args.scanned.now) ≤ length c.args.scanned.now.text =
    c.counts_of_spelled_grammars.ensures.tokens _ c.args.scanned.now c.list-tokens.ensures.tokens in
    let counted = (schedule_few c.in-Ok.ensures.answer).many in
    let short = c.requires.short in
    omega (arith, few, counted, short)

-- each attribute of a schedule that was read is a computed one
pub returns-in-Ok-clause-computed : goal.returns-in-Ok-clause-computed
returns-in-Ok-clause-computed c =
    let k = c.args.checked.now in
    if_read k.grammar c.args.scanned.now (λ s. AreComputed (meant k) (stages_of s))
    (λ s answer. read_computed (greatest_of_width k.width) k.grammar c.args.scanned.now s answer) c.named.result
    (inr (inl (record {
      written = c.in-Ok.written;
      spells = c.in-Ok.ensures.answer;
      answer = c.named.ensures.exact;
    })))

-- it is within the limits
pub returns-in-Ok-clause-limits : goal.returns-in-Ok-clause-limits
returns-in-Ok-clause-limits c =
    let k = c.args.checked.now in
    if_read k.grammar c.args.scanned.now (λ s. IsWithinPassLimits (stages_of s))
    (λ s answer. read_limits k.grammar c.args.scanned.now s answer) c.named.result
    (inr (inl (record {
      written = c.in-Ok.written;
      spells = c.in-Ok.ensures.answer;
      answer = c.named.ensures.exact;
    })))

-- and its attributes are those of the grammar
pub returns-in-Ok-clause-known : goal.returns-in-Ok-clause-known
returns-in-Ok-clause-known c =
    let k = c.args.checked.now in
    if_read k.grammar c.args.scanned.now (λ s. AreStagesKnown k.grammar s.stages)
    (λ s answer.
    computed_known k s (read_computed (greatest_of_width k.width) k.grammar c.args.scanned.now s answer)) c.named.result
    (inr (inl (record {
      written = c.in-Ok.written;
      spells = c.in-Ok.ensures.answer;
      answer = c.named.ensures.exact;
    })))
