use Rattle.std.proofs.Common.{◌≡◌, ◌++◌, map, take}
use Rattle.std.specs.Prelude.{codes}
use Rattle.ftl_meaning.specs.faults.Checked.{all_attributes}
use Rattle.ftl_tree.proofs.boxes.pieces.attribute_pieces.Given as goal

-- the pieces so far
abbrev pub invariant-loop-attr : goal.invariant-loop-attr
invariant-loop-attr l =
    l.pieces
    ≡ map (λ a. codes " " ++ a.decl.name ++ codes "=") (take l.attr (all_attributes l.checked.grammar))
