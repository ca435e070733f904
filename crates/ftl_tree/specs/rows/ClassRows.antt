-- The attributes of each class as two runs of numbers, and the place of an input by counting.
use Rattle.std.specs.Prelude.{◌≡◌, ◌⊎◌, ℕ, suc, ◌+◌, ◌<◌, ◌≤◌, List, ◌++◌, length, filter, slice_index_or}
use Rattle.std.specs.Prelude.{Contains}
use Rattle.std.specs.List.{range_with_len}
use Rattle.ftl_model.specs.lists.Lists.{place_in}
use Rattle.ftl_model.specs.layout.AttributeGrammar.{AttributeGrammar, attributes_of, is_input}
use Rattle.ftl_tree.specs.declared.rows.class_row.ClassRow.{ClassRow}

-- a number in a run of so many numbers
abbrev pub IsInRun : (first count number : ℕ) → Type 0
IsInRun first count n = (first ≤ n) × (n < first + count)

-- a number before or behind a run
abbrev pub IsOutsideRun : (first count number : ℕ) → Type 0
IsOutsideRun first count n = (n < first) ⊎ (first + count ≤ n)

-- the attributes of a class: its interface's, then its own
abbrev pub attributes_in : ClassRow → List ℕ
attributes_in row = range_with_len row.shared_first row.shared_count ++ range_with_len row.own_first row.own_count

-- a class without attributes
abbrev pub no_attributes : ClassRow
no_attributes = record { shared_first = 0; shared_count = 0; own_first = 0; own_count = 0 }

-- the row is of this class
pub record IsClassRow (g : AttributeGrammar) (class : ℕ) (row : ClassRow) : Type 0 where
  pub attributes : attributes_of g class ≡ attributes_in row
  pub shared : row.shared_first + row.shared_count ≤ g.attribute_count
  pub own : row.own_first + row.own_count ≤ g.attribute_count
  pub few : row.shared_count + row.own_count ≤ 128

-- there is a row for each class
pub record AreClassRows (g : AttributeGrammar) (rows : List ClassRow) : Type 0 where
  pub count : length rows ≡ g.class_count
  pub each : (k : ℕ) → k < g.class_count → IsClassRow g k (slice_index_or rows k no_attributes)

-- these are the places of all attributes: of each, the place among the attributes of every class that has it
pub record AreAttributePlaces (g : AttributeGrammar) (places : List ℕ) : Type 0 where
  pub length_is : length places ≡ g.attribute_count
  pub each :
      (class a : ℕ) → class < g.class_count → Contains (attributes_of g class) a
      → slice_index_or places a 0 ≡ place_in (attributes_of g class) a

-- how many inputs have smaller numbers
abbrev pub inputs_below : AttributeGrammar → (attribute : ℕ) → ℕ
inputs_below g a = length (filter (λ b. is_input (g.sort b)) (range_with_len 0 a))

-- these are the counts of inputs below each attribute, and below the end
pub record AreInputCounts (g : AttributeGrammar) (counts : List ℕ) : Type 0 where
  pub length_is : length counts ≡ suc g.attribute_count
  pub each : (a : ℕ) → a ≤ g.attribute_count → slice_index_or counts a 0 ≡ inputs_below g a

-- a table has the width of each class
pub record AreWidths (width : ℕ → ℕ) (count : ℕ) (table : List ℕ) : Type 0 where
  pub length_is : length table ≡ count
  pub each : (k : ℕ) → k < count → slice_index_or table k 0 ≡ width k
