use Rattle.std.proofs.Common.{◌∙◌, drop, map, ap}
use Rattle.std.specs.String.{string_bytes}
use Rattle.ftl_page.specs.commands.Commands.{answer_by}
use Rattle.ftl_page.proofs.commands.Words.{by_first, command_at, no_command}
use Rattle.ftl_page.proofs.commands.read.read_command.Goals as goal

pub returns-in_default-as_str : goal.returns-in_default-as_str
returns-in_default-as_str c =
    let words = map string_bytes c.args.words.now in
    let rest = map string_bytes (drop 1 c.args.words.now) in
    let name = string_bytes c.in-Some.name.now in
    let same = c.as_str.ensures.value in
    let none =
    command_at words rest name
    (by_first c.args.words.now c.in-Some.name.now c.in-Some.ensures.item.3.0 c.in-Some.ensures.item.1)
    ∙ no_command name rest
    (λ e. c.in_default-as_str.not-run (same ∙ e))
    (λ e. c.in_default-as_str.not-check (same ∙ e))
    (λ e. c.in_default-as_str.not-schedule (same ∙ e))
    (λ e. c.in_default-as_str.not-explain (same ∙ e))
    (λ e. c.in_default-as_str.not-demand (same ∙ e))
    (λ e. c.in_default-as_str.not-edit (same ∙ e))
    (λ e. c.in_default-as_str.not-sample (same ∙ e)) in
    record { exact = λ _. ap answer_by none }
