use Rattle.std.proofs.Common.{◌≡◌, map, take}
use Rattle.ftl_checked.proofs.lookup.tables.child_names.Given as goal

abbrev pub invariant-loop-child : goal.invariant-loop-child
invariant-loop-child l = l.names ≡ map (λ c. c.name) (take l.child-index l.children)
