use Rattle.std.proofs.Common.{◌≡◌, drop}
use Rattle.std.specs.List.{list_any}
use Rattle.ftl_model.specs.layout.Boxes.{shows_overflow}
use Rattle.ftl_model.specs.layout.Path.{preorder}
use Rattle.ftl_meaning.specs.grammars.GrammarOf.{names_of}
use Rattle.ftl_tree.specs.boxes.WordValues.{table_of_words}
use Rattle.ftl_tree.proofs.boxes.Lines.{overflows_at}
use Rattle.ftl_tree.proofs.boxes.print.shows_overflow.Given as goal

-- the nodes that are left tell
abbrev pub invariant-loop-node : goal.invariant-loop-node
invariant-loop-node l =
    shows_overflow (names_of l.tree.checked.grammar) l.tree.tree (table_of_words l.tree l.words)
    ≡ list_any (overflows_at l.tree l.words) (drop l.node (preorder l.tree.tree))
