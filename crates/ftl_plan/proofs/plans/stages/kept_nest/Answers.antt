use Rattle.std.proofs.Common.{List, Option, Some, ap, ap₂, ◌∙◌, sym, map}
use Rattle.std.specs.Option.{option_map}
use Rattle.ftl_order.specs.orders.Schedule as order
use Rattle.ftl_schedule.specs.stages.Stages.{pass_of}
use Rattle.ftl_schedule.specs.declared.stages.types.Pass.{Pass}
use Rattle.ftl_schedule.specs.declared.stages.types.Stage.{Stage}
use Rattle.ftl_nest_check.specs.flat.FlatStages.{stages_in}
use Rattle.ftl_nest_check.specs.stages.Nested.{nest_of}
use Rattle.ftl_nest_check.specs.declared.stages.types.Nest.{Nest}
use Rattle.ftl_host_cursors.specs.HostLaws.{passes_in_order}
use Rattle.ftl_host_cursors.specs.NestTables.{nest_meaning}
use Rattle.ftl_plan.proofs.plans.stages.kept_nest.Goals as goal

pub returns-in_ok-rows-in-Some : goal.returns-in_ok-rows-in-Some
returns-in_ok-rows-in-Some c =
    let rows = c.in_ok-rows-in-Some.ensures.rows in
    let passes =
    ap (λ (ps : List Pass). map pass_of ps) rows.passes_are
    ∙ c.in_ok-passes-in-Some.ensures.passes
    ∙ ap (λ (ss : List Stage). passes_in_order (stages_in ss)) c.as_slice.ensures in
    record {
      nest = record {
        nest_is =
            ap₂ (λ h (ps : List order.Pass). record { host = Some h; inner = ps }) rows.host_is passes
            ∙ ap (λ (n : Option Nest). nest_meaning (option_map nest_of n)) (sym c.in-Some.is);
        tables = rows.tables;
      };
    }
