-- How passes are cut into items, where some have a host class.
use Rattle.std.specs.Prelude.{◌≡◌, ℕ, Bool, List, Option, None, slice_index_or}
use Rattle.ftl_model.specs.layout.Path.{Path}
use Rattle.ftl_model.specs.layout.Tree.{Forest}
use Rattle.ftl_order.specs.orders.Schedule.{Pass}
use Rattle.ftl_items.specs.stage_items.Cut.{PassCut}
use Rattle.ftl_items.specs.stage_items.Items.{pass_in}
use Rattle.ftl_cursors.specs.items.WholeTrees.{is_whole_at}
use Rattle.ftl_cursors.specs.declared.items.columns.ItemRows.{ItemRows}

-- the nodes that are one item with all below them
abbrev pub is_whole_in : ItemRows → Path → Bool
is_whole_in rows p = is_whole_at rows.host rows.tree.now.tree rows.grain p

-- how the pass of a number is cut, of a stage whose passes are these and have these host classes
abbrev pub cut_with : Forest → (grain : ℕ) → List Pass → (hosts : List (Option ℕ)) → (pass : ℕ) → PassCut
cut_with t grain passes hosts m =
    record { kind = (pass_in passes m).kind; is_whole = is_whole_at (slice_index_or hosts m None) t grain }

-- no pass has a host class
abbrev pub HaveNoHost : (hosts : List (Option ℕ)) → Type 0
HaveNoHost hosts = (m : ℕ) → slice_index_or hosts m None ≡ None
