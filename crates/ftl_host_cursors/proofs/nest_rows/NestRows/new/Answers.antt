use Rattle.std.proofs.Common.{List, refl, subst}
use Rattle.ftl_deps.specs.reads.Meant.{meant}
use Rattle.ftl_schedule.specs.declared.stages.types.Pass.{Pass}
use Rattle.ftl_cursors.specs.stages.PassTables.{ArePassTables}
use Rattle.ftl_host_cursors.proofs.nest_rows.NestRows.new.Goals as goal

pub returns : goal.returns
returns c =
    record {
      rows = record {
        host_is = refl;
        passes_are = refl;
        tables =
            subst (λ (ps : List Pass). ArePassTables (meant c.args.index.now) ps c.in_ok-tables.tables)
            c.as_slice.ensures.value c.in_ok-tables.ensures.tables;
      };
    }
