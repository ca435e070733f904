use Rattle.std.proofs.Common.{◌≡◌, ◌∷◌, map, take, None, Some}
use Rattle.ftl_cursors.specs.items.RowsOfTree.{AreOfTree}
use Rattle.ftl_cursors.specs.declared.items.columns.ItemRows.{ItemRows}
use Rattle.ftl_cursors.proofs.items.by_host.TreeRows.new.Given as goal

abbrev pub invariant-loop-host : goal.invariant-loop-host
invariant-loop-host l = record {
  of_tree : AreOfTree l.tree l.grain l.by_host.items;
  hosts : map (λ (r : ItemRows). r.host) l.by_host.items ≡ None ∷ map Some (take l.host-index l.hosts);
}
