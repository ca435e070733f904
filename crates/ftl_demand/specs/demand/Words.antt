-- The words of a tree's instances, of which some are there already: 0 stands where a word is not there yet.
use Rattle.std.specs.Prelude.{◌≡◌, ◌≢◌, ℕ, ◌<◌, List, length, slice_index, slice_index_or}
use Rattle.ftl_model.specs.layout.AttributeGrammar.{AttributeGrammar, input}
use Rattle.ftl_model.specs.layout.Solves.{Instance, IsInstance}
use Rattle.ftl_model.specs.layout.Table.{SolvesList, instance_count, instance_number}
use Rattle.ftl_model.specs.layout.Tree.{Forest}
use Rattle.ftl_model.specs.layout.Values.{IsValue, Value, overflow, word_of_value}

-- values that solve the tree, each in range
pub record IsSolution (g : AttributeGrammar) (t : Forest) (values : List Value) : Type 0 where
  pub solves : SolvesList g t values
  pub in_range : (i : ℕ) → i < length values → IsValue (slice_index_or values i overflow)

-- There are values that solve. There is a word for each instance: 0, or that of its value, whatever values solve. That
-- of an input is there.
pub record AreWordsSoFar (g : AttributeGrammar) (t : Forest) (words : List ℕ) : Type 0 where
  pub solvable : (values : List Value) × IsSolution g t values
  pub count : length words ≡ instance_count g t
  pub inputs :
      (i : Instance) → IsInstance g t i → g.sort i.attribute ≡ input → slice_index words (instance_number g t i) ≢ 0
  pub right :
      (values : List Value) → IsSolution g t values → (cell : ℕ) → slice_index words cell ≢ 0
      → slice_index words cell ≡ word_of_value (slice_index_or values cell overflow)

-- words that are there stay
abbrev pub StaysWhereThere : (before now : List ℕ) → Type 0
StaysWhereThere before now = (cell : ℕ) → slice_index before cell ≢ 0 → slice_index now cell ≡ slice_index before cell
