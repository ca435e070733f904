use Rattle.std.proofs.Common.{◌≡◌, ◌-◌, take}
use Rattle.ftl_meaning.specs.faults.Numbering.{shared_attributes}
use Rattle.ftl_tree.proofs.boxes.ShownAmong.{shown_among}
use Rattle.ftl_tree.proofs.boxes.shown.shown_row.Given as goal

-- those among the first attributes
abbrev pub invariant-loop-attr : goal.invariant-loop-attr
invariant-loop-attr l =
    l.row ≡ shown_among l.checked.grammar l.interface
    (take (l.attr - l.first) (shared_attributes l.checked.grammar l.interface))
