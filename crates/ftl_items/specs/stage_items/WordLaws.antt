-- The words that close a stage fit the next; what stands in the cells before the first stage and after the last.
use Rattle.std.specs.Prelude.{◌≡◌, ℕ, suc, List, length, map}
use Rattle.ftl_cells.specs.shared.Shape.{listed}
use Rattle.ftl_cells.specs.shared.State.{AreFirst, AreLast}
use Rattle.ftl_model.specs.layout.AttributeGrammar.{AttributeGrammar, Sort, inherited, input, input_value, local, synthesized}
use Rattle.ftl_model.specs.layout.Path.{class_at, inputs_at}
use Rattle.ftl_model.specs.layout.Solves.{Instance}
use Rattle.ftl_model.specs.layout.Table.{SolvesList, instances}
use Rattle.ftl_model.specs.layout.Tree.{Forest}
use Rattle.ftl_model.specs.layout.TreeOf.{IsTreeOf}
use Rattle.ftl_model.specs.layout.Values.{Value, word_of_value}
use Rattle.ftl_order.specs.orders.Lawful.{IsLawful}
use Rattle.ftl_order.specs.orders.Ordered.{IsOrdered}
use Rattle.ftl_order.specs.orders.Schedule.{Schedule}
use Rattle.ftl_items.specs.stage_items.StageWork.{stage_work}

-- the cells' words after a stage are those before the next, for the same solution
abbrev pub WordsFitTheNextStage : AttributeGrammar → Schedule → Forest → (grain stage : ℕ) → Type 0
WordsFitTheNextStage g s t grain stage =
    (solution : List Value) (reads stack more_reads more_stack : ℕ) (words : List ℕ)
    → AreLast (listed (stage_work g s t grain stage solution reads stack)) words
    → AreFirst (listed (stage_work g s t grain (suc stage) solution more_reads more_stack)) words

-- ---- before the first stage, and after the last

-- the word of an instance before any stage: an input's is that of its number, and what is computed has none yet
abbrev pub first_word : AttributeGrammar → Forest → Sort → Instance → ℕ
first_word g t input i = word_of_value (input_value g (class_at t i.node) i.attribute (inputs_at t i.node))
first_word g t inherited i = 0
first_word g t synthesized i = 0
first_word g t local i = 0

-- the words of all cells before any stage
abbrev pub first_words : AttributeGrammar → Forest → List ℕ
first_words g t = map (λ i. first_word g t (g.sort i.attribute) i) (instances g t)

-- each cell holds the word of the solution's value
abbrev pub HoldTheSolution : List Value → (words : List ℕ) → Type 0
HoldTheSolution solution words = words ≡ map word_of_value solution

-- of an ordered schedule, on each tree of a lawful grammar, with the values that solve it and at each grain
abbrev pub OfSolutions : (AttributeGrammar → Schedule → Forest → List Value → (grain : ℕ) → Type 0) → Type 0
OfSolutions P =
    (g : AttributeGrammar) (s : Schedule) (t : Forest) → IsLawful g → IsOrdered g s → IsTreeOf g t
    → (solution : List Value) → SolvesList g t solution → (grain : ℕ) → P g s t solution grain

-- the first words fit the first stage
abbrev pub FirstWordsFit : AttributeGrammar → Schedule → Forest → List Value → (grain : ℕ) → Type 0
FirstWordsFit g s t solution grain =
    (reads stack : ℕ) → AreFirst (listed (stage_work g s t grain 0 solution reads stack)) (first_words g t)

-- the words that close the last stage are the solution's
abbrev pub LastWordsAreTheSolution : AttributeGrammar → Schedule → Forest → List Value → (grain : ℕ) → Type 0
LastWordsAreTheSolution g s t solution grain =
    (stage reads stack : ℕ) (words : List ℕ) → suc stage ≡ length s
    → AreLast (listed (stage_work g s t grain stage solution reads stack)) words → HoldTheSolution solution words

-- and with no stage the first words are
abbrev pub NoStagesNoSteps : AttributeGrammar → Schedule → Forest → List Value → (grain : ℕ) → Type 0
NoStagesNoSteps g s t solution grain = length s ≡ 0 → HoldTheSolution solution (first_words g t)
