-- The words of the cells before, between and after the stages of a plan.
use Rattle.std.specs.Prelude.{◌≡◌, ℕ, suc, List, length}
use Rattle.ftl_cells.specs.shared.State.{AreFirst, AreLast}
use Rattle.ftl_items.specs.stage_items.WordLaws.{HoldTheSolution, first_words}
use Rattle.ftl_model.specs.layout.AttributeGrammar.{AttributeGrammar}
use Rattle.ftl_model.specs.layout.Tree.{Forest}
use Rattle.ftl_nests.specs.Nests.{NestingSchedule}
use Rattle.ftl_items.specs.solution.Solution.{solution}
use Rattle.ftl_plan.specs.laws.StageMeanings.{stage_meaning}

-- the first words fit the first stage
abbrev pub FirstWordsFit : AttributeGrammar → NestingSchedule → Forest → Type 0
FirstWordsFit g s t = (grain max_stack : ℕ) → AreFirst (stage_meaning g s t grain 0 max_stack) (first_words g t)

-- the words that close a stage fit the next
abbrev pub WordsFitTheNextStage : AttributeGrammar → NestingSchedule → Forest → Type 0
WordsFitTheNextStage g s t =
    (grain stage max_stack : ℕ) (words : List ℕ) → AreLast (stage_meaning g s t grain stage max_stack) words
    → AreFirst (stage_meaning g s t grain (suc stage) max_stack) words

-- those that close the last stage are the words of the solution
abbrev pub LastWordsAreTheSolution : AttributeGrammar → NestingSchedule → Forest → Type 0
LastWordsAreTheSolution g s t =
    (grain stage max_stack : ℕ) (words : List ℕ) → suc stage ≡ length s
    → AreLast (stage_meaning g s t grain stage max_stack) words → HoldTheSolution (solution g t) words

-- and with no stage the first words are
abbrev pub NoStagesNoSteps : AttributeGrammar → NestingSchedule → Forest → Type 0
NoStagesNoSteps g s t = length s ≡ 0 → HoldTheSolution (solution g t) (first_words g t)
