-- Two steps that show a pair: the first is by the reader, the second by the writer, and the pair's read is of what the
-- second computes.
use Rattle.std.specs.Prelude.{◌≡◌, ℕ, ◌<◌, List, length, slice_index_or, Contains}
use Rattle.ftl_cursors.specs.item_cursor.ItemSteps.{no_step}
use Rattle.ftl_model.specs.layout.AttributeGrammar.{AttributeGrammar, Occurrence, RuleName, occurrences}
use Rattle.ftl_model.specs.layout.Path.{kids_at, node_at}
use Rattle.ftl_model.specs.layout.Solves.{rule_named, seen_from}
use Rattle.ftl_model.specs.layout.Tree.{Forest}
use Rattle.ftl_order.specs.declared.steps.step.Step.{Step}
use Rattle.ftl_order.specs.orders.Pairs.{Pair}
use Rattle.ftl_order.specs.steps.Steps.{IsStepOf, rule_at, target_of}
use Rattle.ftl_step_value.specs.cells.ReadCells.{filled_cell}
use Rattle.ftl_example.specs.shows.Shows.{at_hand}

-- while this kid is at hand, the read is of what step y computes
abbrev pub IsSeenAs : AttributeGrammar → Forest → Pair → (x : Step) → (number : ℕ) → (y : Step) → Type 0
IsSeenAs g t pair x n y =
    (o : Occurrence) × Contains (occurrences (kids_at t (node_at t x.node)) n pair.read) o
    × (target_of g t y ≡ seen_from (node_at t x.node) o)

-- the kids that come to hand in the pair's part of step x
abbrev pub kids_at_hand : AttributeGrammar → Forest → Pair → (x : Step) → List ℕ
kids_at_hand g t pair x =
    at_hand (rule_named g pair.reader).parts pair.part (kids_at t (node_at t x.node)) x.kid

-- step y is by the writer, and is what the read is of while one of these kids is at hand
abbrev pub IsWrittenFor : AttributeGrammar → Forest → Pair → (x : Step) → (numbers : List ℕ) → (y : Step) → Type 0
IsWrittenFor g t pair x ns y =
    (rule_at g y.rule ≡ pair.writer) × ((n : ℕ) × Contains ns n × IsSeenAs g t pair x n y)

-- the steps show the pair
pub record AreShownBy (g : AttributeGrammar) (t : Forest) (pair : Pair) (x y : Step) : Type 0 where
  pub reader : rule_at g x.rule ≡ pair.reader
  pub writer : IsWrittenFor g t pair x (kids_at_hand g t pair x) y

-- the step at a place
abbrev pub step_in : List Step → ℕ → Step
step_in steps place = slice_index_or steps place no_step

-- the steps are of the tree
abbrev pub AreOfTree : AttributeGrammar → Forest → List Step → Type 0
AreOfTree g t steps = (x : Step) → Contains steps x → IsStepOf g t x

-- the step at this place shows the pair with step x
abbrev pub IsShownWith : AttributeGrammar → Forest → Pair → (x : Step) → List Step → ℕ → Type 0
IsShownWith g t pair x steps w = (w < length steps) × AreShownBy g t pair x (step_in steps w)

-- at these places stand two steps that show the pair
pub record AreShownAt (g : AttributeGrammar) (t : Forest) (pair : Pair) (steps : List Step) (reader writer : ℕ) :
    Type 0 where
  pub reader_within : reader < length steps
  pub writer_within : writer < length steps
  pub are : AreShownBy g t pair (step_in steps reader) (step_in steps writer)

-- no two steps do
abbrev pub NoneShow : AttributeGrammar → Forest → Pair → List Step → Type 0
NoneShow g t pair steps = (m n : ℕ) → AreShownAt g t pair steps m n → ⊥

-- at this place stands the step that is written for step x while one of these kids is at hand
abbrev pub IsFoundFor : AttributeGrammar → Forest → Pair → (x : Step) → (numbers : List ℕ) → List Step → ℕ → Type 0
IsFoundFor g t pair x ns steps w = (w < length steps) × IsWrittenFor g t pair x ns (step_in steps w)

-- none is
abbrev pub NoneIsFoundFor : AttributeGrammar → Forest → Pair → (x : Step) → (numbers : List ℕ) → List Step → Type 0
NoneIsFoundFor g t pair x ns steps = (w : ℕ) → IsFoundFor g t pair x ns steps w → ⊥

-- a step by this rule fills a cell
abbrev pub IsFilling : AttributeGrammar → Forest → RuleName → (cell : ℕ) → Step → Type 0
IsFilling g t rule cell x = (rule_at g x.rule ≡ rule) × (filled_cell g t x ≡ cell)

-- at this place stands one
abbrev pub IsFilledAt : AttributeGrammar → Forest → RuleName → (cell : ℕ) → List Step → ℕ → Type 0
IsFilledAt g t rule cell steps w = (w < length steps) × IsFilling g t rule cell (step_in steps w)

-- none of the first steps is one
abbrev pub NoneIsFilled : AttributeGrammar → Forest → RuleName → (cell : ℕ) → List Step → (count : ℕ) → Type 0
NoneIsFilled g t rule cell steps n = (w : ℕ) → w < n → IsFilling g t rule cell (step_in steps w) → ⊥
