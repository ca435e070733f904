use Rattle.std.proofs.Common.{take}
use Rattle.ftl_relayout.specs.readers.Tables.{Comes, IsOfReads}
use Rattle.ftl_relayout.proofs.readers.table.add_reads.Given as goal

-- the reads before this one have come
abbrev pub invariant-loop-read : goal.invariant-loop-read
invariant-loop-read l = Comes l.classes l.fn.lists l.lists (IsOfReads l.info l.when (take l.read-index l.reads))
