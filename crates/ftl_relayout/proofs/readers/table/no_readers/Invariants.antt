use Rattle.std.proofs.Common.{◌≡◌, length}
use Rattle.ftl_relayout.specs.readers.Tables.{HasNone}
use Rattle.ftl_relayout.proofs.readers.table.no_readers.Given as goal

-- a list for each number before this one
abbrev pub invariant-loop-list : goal.invariant-loop-list
invariant-loop-list l = record {
  long : length l.lists.items ≡ l._list;
  none : HasNone l.lists.items;
}
