use Rattle.std.proofs.Common.{◌≡◌, ◌++◌, map, take}
use Rattle.ftl_document.proofs.fields.class_table.add_children.Given as goal

abbrev pub invariant-loop-child : goal.invariant-loop-child
invariant-loop-child l = l.names ≡ l.initial.names ++ map (λ c. c.name) (take l.child-index l.children)
