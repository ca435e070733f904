use Rattle.std.proofs.Common.{◌≡◌, ◌≤◌, ◌+◌, ◌++◌, take, drop}
use Rattle.std.specs.List.{list_any}
use Rattle.ftl_tree.specs.boxes.LinePieces.{attribute_pieces, row_room}
use Rattle.ftl_tree.specs.boxes.Shows.{fields_text, shows_in}
use Rattle.ftl_tree.proofs.boxes.print.put_fields.Given as goal

-- the fields so far, and whether one of them is Overflow; there is room for those that are left
abbrev pub invariant-loop-attr : goal.invariant-loop-attr
invariant-loop-attr l = record {
  fields : take l.written.end l.bytes
      ≡ take l.fn.end l.fn.bytes ++ fields_text l.tree l.words l.node (take l.attr-index l.shown);
  room : l.written.end + row_room (attribute_pieces l.tree.checked.grammar) (drop l.attr-index l.shown)
      ≤ l.fn.end + row_room (attribute_pieces l.tree.checked.grammar) l.shown;
  any : l.written.overflows ≡ list_any (shows_in l.tree l.words l.node) (take l.attr-index l.shown);
}
