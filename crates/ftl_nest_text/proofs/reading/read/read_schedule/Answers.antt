use Rattle.std.proofs.Common.{arith, ◌≤◌, length, inl, inr}
use Rattle.ftl_tokens.specs.scanner.Tokenized.{symbols_of}
use Rattle.ftl_deps.specs.reads.Meant.{meant}
use Rattle.ftl_order.specs.faults.FaultLaws.{AreComputed}
use Rattle.ftl_nests.specs.Nests.{outer_schedule}
use Rattle.ftl_nest_check.specs.stages.Nested.{AreNestsKept, IsWithinNestLimits, nests_of}
use Rattle.ftl_nest_check.specs.stages.Known.{AreNestingStagesKnown}
use Rattle.ftl_nest_text.proofs.reading.NestCounted.{schedule_few}
use Rattle.ftl_nest_text.proofs.reading.NestReadFrom.{if_read}
use Rattle.ftl_nest_text.proofs.reading.NestRead.{read_computed, read_kept, read_known, read_limits}
use Rattle.ftl_nest_text.proofs.reading.read.read_schedule.Goals as goal

-- there are no more passes than tokens, and no more of these than bytes
pub named-requires-clause-passes : goal.named-requires-clause-passes
named-requires-clause-passes c =
    let few : length (symbols_of c.args.scanned.now) ≤ length c.args.scanned.now.text =
    c.counts_of_spelled_grammars.ensures.tokens _ c.args.scanned.now c.list-tokens.ensures.tokens in
    let counted = (schedule_few c.in-Ok.ensures.answer).all in
    let short = c.requires.short in
    omega (arith, few, counted, short)

-- nor stages
pub named-requires-clause-stages : goal.named-requires-clause-stages
named-requires-clause-stages c =
    let few : length (symbols_of c.args.scanned.now) ≤ length c.args.scanned.now.text =
    c.counts_of_spelled_grammars.ensures.tokens _ c.args.scanned.now c.list-tokens.ensures.tokens in
    let counted = (schedule_few c.in-Ok.ensures.answer).many in
    let short = c.requires.short in
    omega (arith, few, counted, short)

-- each attribute of a schedule that was read is a computed one
pub returns-in-Ok-clause-computed : goal.returns-in-Ok-clause-computed
returns-in-Ok-clause-computed c =
    let k = c.args.checked.now in
    if_read k c.args.scanned.now (λ s. AreComputed (meant k) (outer_schedule (nests_of s)))
    (read_computed k c.grammar-lawful.ensures.lawful c.grammar-lawful.ensures.kinds c.args.scanned.now) c.named.result
    (inr (inl (record {
      written = c.in-Ok.written;
      spells = c.in-Ok.ensures.answer;
      answer = c.named.ensures.exact;
    })))

-- it is within the limits
pub returns-in-Ok-clause-limits : goal.returns-in-Ok-clause-limits
returns-in-Ok-clause-limits c =
    let k = c.args.checked.now in
    if_read k c.args.scanned.now (λ s. IsWithinNestLimits (nests_of s)) (read_limits k c.args.scanned.now)
    c.named.result
    (inr (inl (record {
      written = c.in-Ok.written;
      spells = c.in-Ok.ensures.answer;
      answer = c.named.ensures.exact;
    })))

-- its nests keep their sides
pub returns-in-Ok-clause-kept : goal.returns-in-Ok-clause-kept
returns-in-Ok-clause-kept c =
    let k = c.args.checked.now in
    if_read k c.args.scanned.now (λ s. AreNestsKept (meant k) (nests_of s))
    (read_kept k c.grammar-lawful.ensures.lawful c.grammar-lawful.ensures.kinds c.args.scanned.now) c.named.result
    (inr (inl (record {
      written = c.in-Ok.written;
      spells = c.in-Ok.ensures.answer;
      answer = c.named.ensures.exact;
    })))

-- and its attributes and hosts are those of the grammar
pub returns-in-Ok-clause-known : goal.returns-in-Ok-clause-known
returns-in-Ok-clause-known c =
    let k = c.args.checked.now in
    if_read k c.args.scanned.now (λ s. AreNestingStagesKnown k.grammar s.stages)
    (read_known k c.grammar-lawful.ensures.lawful c.grammar-lawful.ensures.kinds c.args.scanned.now) c.named.result
    (inr (inl (record {
      written = c.in-Ok.written;
      spells = c.in-Ok.ensures.answer;
      answer = c.named.ensures.exact;
    })))
