use Rattle.std.proofs.Common.{◌≡◌, ◌∙◌, ◌∷◌, ℕ, List, drop, map, sym, subst, ap, Result}
use Rattle.std.specs.String.{string_bytes}
use Rattle.ftl_model.specs.layout.Outcome.{Gives}
use Rattle.ftl_page.specs.commands.Commands.{answer_by}
use Rattle.ftl_page.specs.declared.commands.command.Command.{Command}
use Rattle.ftl_page.specs.declared.commands.command.CommandFault.{CommandFault}
use Rattle.ftl_page.specs.declared.commands.command.CommandFault.TheVariants.{OutOfMemory}
use Rattle.ftl_page.proofs.commands.Words.{by_first, sample_at}
use Rattle.ftl_page.proofs.commands.read.sample.Goals as goal

pub returns : goal.returns
returns c =
    let words = map string_bytes c.args.words.now in
    let rest = map string_bytes (drop 1 c.args.words.now) in
    let first : words ≡ c.as_str.result.now ∷ rest =
    by_first c.args.words.now c.in-Some.pieces.now c.in-Some.ensures.item.3.0 c.in-Some.ensures.item.1
    ∙ ap (λ (s : List ℕ). s ∷ rest) (sym c.as_str.ensures.value) in
    record {
      exact = subst (λ (r : Result Command CommandFault). Gives OutOfMemory (λ (x : Command). x) c.sample_of.result r)
          (ap answer_by (sym (sample_at words rest c.as_str.result.now first)))
          c.sample_of.ensures.exact;
    }
