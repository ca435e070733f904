use Rattle.std.proofs.Common.{◌≡◌, take}
use Rattle.ftl_checked.proofs.lookup.among.copies.Given as goal

abbrev pub invariant-loop-name : goal.invariant-loop-name
invariant-loop-name l = l.found ≡ take l.name-index l.names
