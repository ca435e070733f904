use Rattle.std.proofs.Common.{◌≡◌, [], take, drop}
use Rattle.ftl_meaning.specs.faults.FirstFault.{second_name}
use Rattle.ftl_checked.proofs.declarations.names.no_twice.Given as goal

abbrev pub invariant-loop-place : goal.invariant-loop-place
invariant-loop-place l = second_name [] l.table ≡ second_name (take l.place l.table) (drop l.place l.table)
