-- What is shown of a table.
use Rattle.std.specs.Prelude.{ℕ, List}
use Rattle.ftl_meaning.specs.faults.Checked.{CheckedGrammar}
use Rattle.ftl_model.specs.layout.Tree.{Forest}
use Rattle.ftl_model.specs.layout.Values.{Value}
use Rattle.ftl_answer.specs.answers.Answers.{boxes_of, summary_of}
use Rattle.ftl_answer.specs.declared.reading.requests.shown.Shown.{Shown}
use Rattle.ftl_answer.specs.declared.reading.requests.shown.Shown.TheVariants as shown

-- the text of a table
abbrev pub text_shown : Shown → CheckedGrammar → Forest → List Value → List ℕ
text_shown shown.Boxes = boxes_of
text_shown (shown.Summary name) = summary_of name
