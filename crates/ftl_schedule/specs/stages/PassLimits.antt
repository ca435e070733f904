-- How many passes a schedule has at least and at most.
use Rattle.std.specs.Prelude.{◌≤◌, List, length}
use Rattle.std.specs.List.{All, sum_by}
use Rattle.ftl_order.specs.orders.Schedule.{Pass, Schedule}

-- a stage of one pass at least, and of 4 at most
pub record HasFewPasses (passes : List Pass) : Type 0 where
  pub some : 1 ≤ length passes
  pub few : length passes ≤ 4

-- 2048 passes in all at most, one to 4 in each stage
pub record IsWithinPassLimits (s : Schedule) : Type 0 where
  pub all : sum_by length s ≤ 2048
  pub each : All HasFewPasses s
