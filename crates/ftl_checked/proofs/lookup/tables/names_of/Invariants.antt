use Rattle.std.proofs.Common.{◌≡◌, map, take}
use Rattle.ftl_checked.proofs.lookup.tables.names_of.Given as goal

abbrev pub invariant-loop-class : goal.invariant-loop-class
invariant-loop-class l = l.names ≡ map (λ k. k.name) (take l.class-index l.classes)
