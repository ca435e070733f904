use Rattle.std.proofs.Common.{◌≡◌, ◌++◌, take, drop}
use Rattle.ftl_meaning.specs.faults.FirstFault.{second_name}
use Rattle.ftl_checked.proofs.declarations.names.once_after.Given as goal

abbrev pub invariant-loop-place : goal.invariant-loop-place
invariant-loop-place l = second_name (l.first ++ l.then) l.table ≡ second_name ((l.first ++ l.then) ++ take l.place l.table) (drop l.place l.table)
