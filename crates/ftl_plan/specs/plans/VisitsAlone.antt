-- Stages whose passes are topdown or bottomup and nest nothing.
use Rattle.std.specs.Prelude.{◌≡◌, ◌≢◌, ℕ, ◌<◌, length, None, slice_index_or}
use Rattle.ftl_host_cursors.specs.declared.tables.NestTables.{NestTables}
use Rattle.ftl_order.specs.orders.Schedule.{inorder}
use Rattle.ftl_cursors.specs.items.StageItems.{pass_numbered}

-- the pass of this number is one
pub record IsVisitsAlone (x : NestTables) (pass : ℕ) : Type 0 where
  pub kind : (pass_numbered x.own.items pass).kind ≢ inorder
  pub none : slice_index_or x.nests.now pass None ≡ None

-- each pass of the stage is one
abbrev pub AreVisitsAlone : NestTables → Type 0
AreVisitsAlone x = (m : ℕ) → m < length x.own.items.passes.now → IsVisitsAlone x m
