use Rattle.std.proofs.Common.{◌≡◌, ◌≤◌, length, take}
use Rattle.std.specs.List.{flat_map, list_any}
use Rattle.ftl_model.specs.layout.Boxes.{node_line}
use Rattle.ftl_model.specs.layout.Path.{preorder}
use Rattle.ftl_meaning.specs.grammars.GrammarOf.{names_of}
use Rattle.ftl_tree.specs.boxes.WordValues.{table_of_words}
use Rattle.ftl_tree.proofs.boxes.Lines.{overflows_at}
use Rattle.ftl_tree.proofs.boxes.print.print_boxes.Given as goal

-- the lines so far, and whether one of them shows Overflow
abbrev pub invariant-loop-node : goal.invariant-loop-node
invariant-loop-node l = record {
  lines : take l.written.end l.text.items
      ≡ flat_map (node_line (names_of l.tree.checked.grammar) l.tree.tree (table_of_words l.tree l.words))
      (take l.node (preorder l.tree.tree));
  within : l.written.end ≤ length l.text.items;
  any : l.written.overflows ≡ list_any (overflows_at l.tree l.words) (take l.node (preorder l.tree.tree));
}
