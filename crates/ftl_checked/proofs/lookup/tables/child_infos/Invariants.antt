use Rattle.std.proofs.Common.{◌≡◌, map, take}
use Rattle.ftl_meaning.specs.faults.Checked.{child_info}
use Rattle.ftl_checked.proofs.lookup.tables.child_infos.Given as goal

abbrev pub invariant-loop-child : goal.invariant-loop-child
invariant-loop-child l = l.infos ≡ map (child_info l.grammar) (take l.child-index l.children)
