use Rattle.std.proofs.Common.{map}
use Rattle.std.specs.String.{string_bytes}
use Rattle.clap.specs.Words.{app_of, found_of, rows_of}
use Rattle.ftl_page.proofs.commands.Taken.{simple_of, taken_ok}
use Rattle.ftl_page.proofs.commands.options.options.Goals as goal

pub returns-in-Ok : goal.returns-in-Ok
returns-in-Ok c =
    let app = app_of c.args.command in
    record {
      taken = taken_ok app (map string_bytes c.args.words.now) (rows_of (found_of c.in-Ok.matches))
          (c.in-Ok.ensures.kinds c.requires.simple)
          (c.in-Ok.ensures.matches (simple_of app c.requires.simple)).0;
    }
