use Rattle.std.proofs.Common.{◌≡◌, drop}
use Rattle.std.specs.List.{list_any}
use Rattle.ftl_tree.specs.boxes.Shows.{shows_in}
use Rattle.ftl_tree.proofs.boxes.print.node_overflows.Given as goal

-- the attributes that are left tell
abbrev pub invariant-loop-attr : goal.invariant-loop-attr
invariant-loop-attr l =
    list_any (shows_in l.tree l.words l.node) l.shown
    ≡ list_any (shows_in l.tree l.words l.node) (drop l.attr-index l.shown)
