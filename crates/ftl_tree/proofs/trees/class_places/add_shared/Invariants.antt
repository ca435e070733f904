use Rattle.std.proofs.Common.{◌≡◌, ◌++◌, flat_map, length, take}
use Rattle.std.specs.List.{range_with_len}
use Rattle.ftl_grammar.specs.declared.syntax.rules.Interface.{Interface}
use Rattle.ftl_tree.proofs.trees.class_places.add_shared.Given as goal

-- those of the interfaces so far
abbrev pub invariant-loop-interface : goal.invariant-loop-interface
invariant-loop-interface l =
    l.places.items
    ≡ l.initial.places.items
    ++ flat_map (λ (x : Interface). range_with_len 0 (length x.attrs)) (take l.interface-index l.interfaces)
