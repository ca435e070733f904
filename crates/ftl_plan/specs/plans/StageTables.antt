-- What a plan has of a stage.
use Rattle.std.specs.Prelude.{◌≡◌, ℕ}
use Rattle.ftl_cursors.specs.item_cursor.ItemSteps.{forest_in}
use Rattle.ftl_host_cursors.specs.NestTables.{AreNestTables, AreOfStage}
use Rattle.ftl_host_cursors.specs.declared.tables.NestTables.{NestTables}
use Rattle.ftl_nest_check.specs.stages.Nested.{nests_of}
use Rattle.ftl_plan.specs.plans.StageParts.{StageView}
use Rattle.ftl_plan.specs.plans.Planned.{PlanMeaning}

-- what a stage of a plan is known by
abbrev pub stage_in : PlanMeaning → (stage : ℕ) → StageView
stage_in p stage =
    record {
      checked = p.checked;
      schedule = p.schedule;
      tree = p.tree;
      grain = p.grain;
      stage = stage;
      max_stack = p.programs.max_stack;
    }

-- the tables are those of this stage
pub record AreTablesOf (p : PlanMeaning) (stage : ℕ) (x : NestTables) : Type 0 where
  pub checked : x.own.items.rows.now.tree.now.checked ≡ p.checked
  pub tree : forest_in x.own ≡ p.tree
  pub grain : x.own.items.rows.now.grain ≡ p.grain
  pub passes : AreOfStage x (nests_of p.schedule) stage
  pub tables : AreNestTables x
