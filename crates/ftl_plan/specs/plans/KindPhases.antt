-- What is kept of the items of stages whose passes are of the same kinds and have the same host classes.
use Rattle.std.specs.Prelude.{◌≡◌, ℕ, List, Option, None, length, map, slice_get, slice_index_or, Some}
use Rattle.ftl_cells.specs.work_phases.Phases.{CanTake}
use Rattle.ftl_deps.specs.reads.Meant.{meant}
use Rattle.ftl_order.specs.orders.Schedule as order
use Rattle.ftl_schedule.specs.stages.Stages.{kind_of}
use Rattle.ftl_nest_check.specs.stages.Nested.{nests_of}
use Rattle.ftl_items.specs.stage_items.Cut.{PassCut}
use Rattle.ftl_model.specs.layout.Tree.{Forest}
use Rattle.ftl_cursors.specs.items.ItemClasses.{HaveItemClasses}
use Rattle.ftl_cursors.specs.items.WholeTrees.{is_whole_at}
use Rattle.ftl_plan.specs.declared.plans.phases.ItemPhases.{ItemPhases}
use Rattle.ftl_plan.specs.declared.plans.phases.KindPhases.{KindPhases}
use Rattle.ftl_plan.specs.phases.StagePhases.{CanBeTaken, stage_hosts, stage_kinds}
use Rattle.ftl_plan.specs.plans.StageParts.{StageView, meaning_at}

-- the kinds that phases are kept for
abbrev pub kinds_told : KindPhases → List order.PassKind
kinds_told k = map kind_of k.kinds.items

-- the kinds of the passes of a stage
abbrev pub kinds_at : StageView → List order.PassKind
kinds_at v = stage_kinds (nests_of v.schedule) v.stage

-- their host classes
abbrev pub hosts_at : StageView → List (Option ℕ)
hosts_at v = stage_hosts (nests_of v.schedule) v.stage

-- how the pass of a number is cut, of a stage whose passes are of these kinds and have these host classes
abbrev pub cut_by : Forest → (grain : ℕ) → List order.PassKind → (hosts : List (Option ℕ)) → (pass : ℕ) → PassCut
cut_by t grain kinds hosts m =
    record {
      kind = slice_index_or kinds m order.topdown;
      is_whole = is_whole_at (slice_index_or hosts m None) t grain;
    }

-- the sets have the classes of the nodes of the items, of each stage of this tree, cut by this grain, whose passes are
-- of these kinds and have these host classes
abbrev pub HaveClasses : StageView → List order.PassKind → (hosts : List (Option ℕ)) → (sets : List ℕ) → Type 0
HaveClasses v kinds hosts sets = HaveItemClasses (length kinds) (cut_by v.tree v.grain kinds hosts) v.tree sets

-- so each such stage can take these phases, and has these classes
pub record FitLots (v : StageView) (kinds : List order.PassKind) (hosts : List (Option ℕ)) (l : ItemPhases) : Type 0 where
  pub taken : CanBeTaken (meant v.checked) v.tree v.grain kinds hosts l.phases
  pub classes : HaveClasses v kinds hosts l.classes.items

-- what is kept is so for its own kinds and host classes
abbrev pub FitKinds : StageView → KindPhases → Type 0
FitKinds v k = (l : ItemPhases) → k.lots ≡ Some l → FitLots v (kinds_told k) k.hosts.items l

-- what is kept at this place is of these kinds and hosts
pub record AreOfKinds (kept : List KindPhases) (kinds : List order.PassKind) (hosts : List (Option ℕ)) (place : ℕ) :
    Type 0 where
  pub of : KindPhases
  pub here : slice_get kept place ≡ Some of
  pub kinds_are : kinds_told of ≡ kinds
  pub hosts_are : of.hosts.items ≡ hosts

-- the stage can take these phases, and these are the classes of the nodes of its items
pub record AreForStage (v : StageView) (l : ItemPhases) : Type 0 where
  pub taken : CanTake (meaning_at v) l.phases
  pub classes : HaveClasses v (kinds_at v) (hosts_at v) l.classes.items

-- so are those at this place
abbrev pub AreForStageAt : StageView → List KindPhases → (place : ℕ) → Type 0
AreForStageAt v kept place =
    (k : KindPhases) (l : ItemPhases) → slice_get kept place ≡ Some k → k.lots ≡ Some l → AreForStage v l
