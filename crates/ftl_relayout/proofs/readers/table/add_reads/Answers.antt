use Rattle.std.proofs.Common.{take, get_or, ◌+◌, ◌∷◌, []}
use Rattle.ftl_deps.specs.declared.parts.part_read.PartRead.{PartRead}
use Rattle.ftl_deps.specs.declared.parts.part_read.PartRead.TheVariants as reads
use Rattle.ftl_relayout.specs.readers.Tables.{IsOfReads}
use Rattle.std.proofs.Common.{inl, inr}
use Rattle.ftl_relayout.proofs.readers.Comings.{comes_both, more_reads, reads_more}
use Rattle.ftl_relayout.proofs.readers.table.add_reads.Goals as goal

pub loop-read-preserved : goal.loop-read-preserved
loop-read-preserved c =
    let i = c.args.info in
    let w = c.args.when in
    let qs = c.args.reads.now in
    let k = c.loop-read.read-index in
    let d : PartRead = reads.Own 0 in
    let below = c.loop-read-test.true in
    comes_both c.args.classes c.args.lists.now c.loop-read.lists c.add_read.new.lists (IsOfReads i w (take k qs))
    (IsOfReads i w (get_or qs k d ∷ [])) (IsOfReads i w (take (k + 1) qs)) c.loop-read.invariant c.in_ok-add_read.ensures.comes
    (reads_more i w qs k d below)
    (λ e l. more_reads i w qs k d below e (inl l))
    (λ e r. more_reads i w qs k d below e (inr r))
