use Rattle.ftl_showing.proofs.formats.SameAnswers.{same_document, same_edits, same_grammar, same_schedule}
use Rattle.ftl_showing.proofs.formats.laws.texts_that_say_the_same.Goals as goal

pub returns : goal.returns
returns c = record { grammar = same_grammar; schedule = same_schedule; document = same_document; edits = same_edits }
