-- What a plan keeps for its stages.
use Rattle.std.specs.Prelude.{◌≡◌, ◌≤◌, ℕ, List, length, map, Option, None, Some, Contains}
use Rattle.std.specs.List.{All, AllZip}
use Rattle.std.specs.Option.{option_map}
use Rattle.ftl_model.specs.layout.Limits.{most_passes}
use Rattle.ftl_model.specs.layout.AttributeGrammar.{AttributeGrammar}
use Rattle.ftl_cursors.specs.stages.StageRows.{AreStageRows}
use Rattle.ftl_cursors.specs.declared.items.by_host.TreeRows.{TreeRows}
use Rattle.ftl_host_cursors.specs.NestTables.{HasTables, NestMeaning, kept_meaning, nest_meaning}
use Rattle.ftl_host_cursors.specs.declared.nest_rows.NestRows.{NestRows}
use Rattle.ftl_nests.specs.Nests.{host_of}
use Rattle.ftl_nest_check.specs.stages.Nested.{nest_of}
use Rattle.ftl_nest_check.specs.declared.stages.types.Nest.{Nest}
use Rattle.ftl_nest_check.specs.declared.stages.types.NestingPass.{NestingPass}
use Rattle.ftl_nest_check.specs.declared.stages.types.NestingStage.{NestingStage}
use Rattle.ftl_schedule.specs.declared.stages.types.Pass.{Pass}
use Rattle.ftl_plan.specs.declared.plans.kept.PlanStage.{PlanStage}

-- no stage has more passes than a schedule may have
abbrev pub HaveFewPasses : List NestingStage → Type 0
HaveFewPasses stages = All (λ (stage : NestingStage). length stage.passes ≤ most_passes) stages

-- a pass with its own list alone
abbrev pub own_pass : NestingPass → Pass
own_pass p = record { kind = p.kind; attrs = p.attrs }

-- so passes
abbrev pub own_passes : List NestingPass → List Pass
own_passes passes = map own_pass passes

-- the host class of what a pass nests
abbrev pub pass_host : NestingPass → Option ℕ
pass_host p = host_of (option_map nest_of p.nest)

-- those of passes
abbrev pub pass_hosts : List NestingPass → List (Option ℕ)
pass_hosts passes = map pass_host passes

-- what a pass nests
abbrev pub pass_nest : NestingPass → NestMeaning
pass_nest p = nest_meaning (option_map nest_of p.nest)

-- what passes nest
abbrev pub pass_nests : List NestingPass → List NestMeaning
pass_nests passes = map pass_nest passes

-- ---- host classes

-- the second list has all entries of the first
abbrev pub HasAll : List ℕ → List ℕ → Type 0
HasAll old new = (class : ℕ) → Contains old class → Contains new class

-- the class is one of these, where there is one
abbrev pub HasHost : (classes : List ℕ) → Option ℕ → Type 0
HasHost classes None = Unit {0}
HasHost classes (Some class) = Contains classes class

-- so are those of a stage
abbrev pub HasHosts : (classes : List ℕ) → NestingStage → Type 0
HasHosts classes stage = All (HasHost classes) (pass_hosts stage.passes)

-- each host class of a stage, or none, is one of these
abbrev pub AreHostsAmong : (hosts : List (Option ℕ)) → NestingStage → Type 0
AreHostsAmong hosts stage = All (Contains hosts) (pass_hosts stage.passes)

-- ---- what is kept

-- this is kept of a nest
pub record IsNestKept (g : AttributeGrammar) (nest : Option Nest) (kept : Option NestRows) : Type 0 where
  pub nest_is : kept_meaning kept ≡ nest_meaning (option_map nest_of nest)
  pub tables : HasTables g kept

-- this is kept of what passes nest
pub record AreNestsKept (g : AttributeGrammar) (passes : List NestingPass) (kept : List (Option NestRows)) : Type 0 where
  pub nests_are : map kept_meaning kept ≡ pass_nests passes
  pub tables : All (HasTables g) kept

-- this is kept of the stage with these passes: their own lists with the rows of these, and what each nests
pub record IsStageKept (g : AttributeGrammar) (items : TreeRows) (passes : List NestingPass) (kept : PlanStage) :
    Type 0 where
  pub own : kept.passes.items ≡ own_passes passes
  pub rows : AreStageRows g items kept.passes.items (pass_hosts passes) kept.rows
  pub nests : AreNestsKept g passes kept.nests.items

-- and this of each stage
abbrev pub AreStagesKept : AttributeGrammar → TreeRows → List NestingStage → List PlanStage → Type 0
AreStagesKept g items stages kept =
    AllZip (λ (stage : NestingStage) (k : PlanStage). IsStageKept g items stage.passes k) stages kept
