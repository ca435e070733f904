use Rattle.std.proofs.Common.{◌≡◌, ◌∙◌, map, codes, sym, subst, ap, Ok, Result}
use Rattle.std.specs.String.{string_bytes}
use Rattle.clap.specs.Words.{App, found_of, rows_of}
use Rattle.ftl_model.specs.layout.Outcome.{Gives}
use Rattle.ftl_page.specs.commands.Commands.{answer_by, edit_by}
use Rattle.ftl_page.specs.commands.Options.{solving_app, taken}
use Rattle.ftl_page.specs.declared.commands.command.Command.{Command}
use Rattle.ftl_page.specs.declared.commands.command.CommandFault.{CommandFault}
use Rattle.ftl_page.specs.declared.commands.command.CommandFault.TheVariants.{OutOfMemory}
use Rattle.ftl_page.proofs.commands.Taken.{with_taken}
use Rattle.ftl_page.proofs.commands.read.edit.Goals as goal

pub returns : goal.returns
returns c =
    let words = map string_bytes c.args.words.now in
    let rows = rows_of (found_of c.in_ok-matches.matches) in
    let has : answer_by (taken (solving_app (codes "edit")) words) ≡ Ok rows =
    ap (λ (a : App). answer_by (taken a words)) (sym c.in_ok-solving_command.ensures.app) ∙ c.in_ok-matches.ensures.taken in
    record {
      exact = subst (λ (r : Result Command CommandFault). Gives OutOfMemory (λ (x : Command). x) c.edit_by.result r)
          (sym (with_taken edit_by (taken (solving_app (codes "edit")) words) rows has)) c.edit_by.ensures.exact;
    }
