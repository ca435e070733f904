-- What the texts of a grammar, of a schedule and of a document come to, each on its own.
use Rattle.std.specs.Prelude.{ℕ, List, Option, Some, None}
use Rattle.ftl_base.specs.declared.width.Width.{Width}
use Rattle.ftl_edits.specs.declared.meaning.types.Edit.{Edit}
use Rattle.ftl_meaning.specs.faults.Checked.{CheckedGrammar}
use Rattle.ftl_model.specs.layout.Tree.{Forest}
use Rattle.ftl_nest_check.specs.declared.stages.types.NestingSchedule.{NestingSchedule}
use Rattle.ftl_answer.specs.answers.Stages.{Stage, Then}
use Rattle.ftl_answer.specs.answers.Texts as texts
use Rattle.maugzeris.specs.refusals.Answers.{short_text}

-- the grammar of a text
abbrev pub grammar_text : Width → (text : List ℕ) → Stage CheckedGrammar
grammar_text width text = Then (short_text text) (texts.grammar width)

-- the schedule of a text, or the automatic one where there is none
abbrev pub schedule_text : CheckedGrammar → (text : Option (List ℕ)) → Stage NestingSchedule
schedule_text c None = texts.schedule c None
schedule_text c (Some text) = Then (short_text text) (λ t. texts.schedule c (Some t))

-- the tree of a document, which the schedule can solve
abbrev pub document_text : CheckedGrammar → NestingSchedule → (text : List ℕ) → Stage Forest
document_text c s text = Then (short_text text) (texts.tree c s)

-- the edits of a text, at the tree
abbrev pub edits_text : CheckedGrammar → Forest → (text : List ℕ) → Stage (List Edit)
edits_text c t text = Then (short_text text) (texts.edits c t)
