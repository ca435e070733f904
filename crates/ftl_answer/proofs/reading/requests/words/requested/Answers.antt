use Rattle.ftl_page.specs.commands.Commands.{command_of}
use Rattle.ftl_answer.specs.headline.Headline.{texts}
use Rattle.ftl_answer.proofs.reading.requests.ReadBytes.{command_back, no_command_back, of_no_words, of_words}
use Rattle.ftl_answer.proofs.reading.requests.ReadBytes.{if_ok}
use Rattle.ftl_answer.proofs.reading.requests.words.requested.Goals as goal

pub returns-in-Ok-clause-asked : goal.returns-in-Ok-clause-asked
returns-in-Ok-clause-asked g c =
    let o = command_of (texts c.args.words.now) in
    if_ok c.of_command.result
    (λ q held.
    of_words o c.in-Ok.command (g.S.Source.remaining c.args.source.now) _ _ q
    (command_back o c.in-Ok.command c.in-Ok.ensures.exact) held)
    c.of_command.ensures.asked

pub returns-in_ok-refused-in-Err-BadWords-clause-asked : goal.returns-in_ok-refused-in-Err-BadWords-clause-asked
returns-in_ok-refused-in-Err-BadWords-clause-asked g c =
    let o = command_of (texts c.args.words.now) in
    of_no_words o (g.S.Source.remaining c.args.source.now) _ _ c.in_ok-refused-in-Err-BadWords.field-0
    (no_command_back o c.in-Err-BadWords.field-0 c.in-Err-BadWords.field-0-is c.in-Err-BadWords.ensures.exact)
    c.in_ok-refused-in-Err-BadWords.ensures.answer
