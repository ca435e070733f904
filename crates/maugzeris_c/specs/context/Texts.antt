-- What the bytes of a grammar, of a schedule and of a document come to.
use Rattle.std.specs.Prelude.{◌≡◌, ℕ, List, Option, Some, None, IsUtf8}
use Rattle.ftl_base.specs.declared.width.Width.{Width}
use Rattle.ftl_meaning.specs.faults.Checked.{CheckedGrammar}
use Rattle.ftl_model.specs.layout.Tree.{Forest}
use Rattle.ftl_nest_check.specs.check.NestAccepted.{AcceptedNestingSchedule}
use Rattle.ftl_nest_check.specs.declared.stages.types.NestingSchedule.{NestingSchedule}
use Rattle.ftl_page.specs.declared.sections.fault.PageFault.TheVariants.{NotText}
use Rattle.ftl_answer.specs.answers.Answer.{refused}
use Rattle.ftl_answer.specs.answers.Stages.{Stage, Then, ends, hands_on}
use Rattle.ftl_answer.specs.refusals.PageLines.{page_line}
use Rattle.maugzeris.specs.rules.RuleTexts.{grammar_text, schedule_text, document_text}

-- a text in UTF-8; other bytes are refused as a page of them is
abbrev pub utf8_text : (bytes : List ℕ) → Stage (List ℕ)
utf8_text bytes (hands_on text) = IsUtf8 bytes × (text ≡ bytes)
utf8_text bytes (ends a) = ¬ (IsUtf8 bytes) × (a ≡ refused 4 (page_line NotText))

-- the grammar of a text
abbrev pub grammar_bytes : Width → (bytes : List ℕ) → Stage CheckedGrammar
grammar_bytes width bytes = Then (utf8_text bytes) (grammar_text width)

-- the schedule of a text, or the automatic one where there is none
abbrev pub schedule_bytes : CheckedGrammar → (bytes : Option (List ℕ)) → Stage NestingSchedule
schedule_bytes c None = schedule_text c None
schedule_bytes c (Some bytes) = Then (utf8_text bytes) (λ text. schedule_text c (Some text))

-- the tree of a document
abbrev pub document_bytes : AcceptedNestingSchedule → (bytes : List ℕ) → Stage Forest
document_bytes r bytes = Then (utf8_text bytes) (document_text r.checked r.schedule)
