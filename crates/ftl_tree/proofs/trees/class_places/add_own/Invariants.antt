use Rattle.std.proofs.Common.{◌≡◌, ◌++◌, flat_map, length, take}
use Rattle.std.specs.List.{range_with_len}
use Rattle.ftl_grammar.specs.declared.syntax.rules.Class.{Class}
use Rattle.ftl_meaning.specs.faults.Numbering.{interface_at, interface_number}
use Rattle.ftl_tree.proofs.trees.class_places.add_own.Given as goal

-- those of the classes so far
abbrev pub invariant-loop-class : goal.invariant-loop-class
invariant-loop-class l =
    l.places.items
    ≡ l.initial.places.items
    ++ flat_map
    (λ (x : Class). range_with_len
    (length (interface_at l.checked.grammar (interface_number l.checked.grammar x.interface)).attrs) (length x.attrs))
    (take l.class l.checked.grammar.classes)
