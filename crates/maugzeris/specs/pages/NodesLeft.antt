-- The nodes of a page that an iterator has left.
use Rattle.std.specs.Prelude.{ℕ, ◌-◌, List}
use Rattle.std.specs.List.{range_with_len}
use Rattle.ftl_model.specs.layout.Tree.{size}
use Rattle.maugzeris.specs.declared.pages.nodes.Nodes.{Nodes}

-- their numbers
abbrev pub nodes_left : Nodes → List ℕ
nodes_left n = range_with_len n.next (size n.page.now.tree - n.next)
