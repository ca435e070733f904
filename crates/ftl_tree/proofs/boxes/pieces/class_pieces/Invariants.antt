use Rattle.std.proofs.Common.{◌≡◌, ◌++◌, map, take}
use Rattle.std.specs.Prelude.{codes}
use Rattle.ftl_tree.proofs.boxes.pieces.class_pieces.Given as goal

-- the pieces so far
abbrev pub invariant-loop-class : goal.invariant-loop-class
invariant-loop-class l =
    l.pieces ≡ map (λ k. codes " " ++ k.name) (take l.class-index l.checked.grammar.classes)
