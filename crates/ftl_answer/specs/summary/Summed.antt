-- Sums of shown values, as they grow.
use Rattle.std.specs.Prelude.{◌≡◌, ℕ, ◌*◌, ◌≤◌, List, ◌++◌, codes, filter, length, map, pos, ◌+ℤ◌, ◌≤ℤ◌}
use Rattle.std.specs.Fmt.{decimal, signed_decimal}
use Rattle.ftl_model.specs.layout.Boxes.{is_overflow}
use Rattle.ftl_model.specs.layout.Path.{node_at}
use Rattle.ftl_model.specs.layout.Solves.{instance_of}
use Rattle.ftl_model.specs.layout.Values.{Value}
use Rattle.ftl_tree.specs.trees.CheckedTree.{CheckedTree}
use Rattle.ftl_tree.specs.boxes.WordValues.{table_of_words}
use Rattle.ftl_answer.specs.answers.Summary.{field, mixed, once, weighted_sum}
use Rattle.ftl_answer.specs.declared.summary.sums.Sums.{Sums}

-- how many values there are, how many of them are Overflow, and the sums of the others
pub record AreSumsOf (values : List Value) (sums : Sums) : Type 0 where
  pub shown : sums.shown ≡ length values
  pub overflows : sums.overflows ≡ length (filter is_overflow values)
  pub sum : sums.sum ≡ weighted_sum once 0 values
  pub mix : sums.mix ≡ weighted_sum mixed 0 values

-- no sum is further from 0 than as many numbers of 64 bits lead
pub record AreWithin (sums : Sums) : Type 0 where
  pub overflows : sums.overflows ≤ sums.shown
  pub least_sum : pos 0 ≤ℤ (sums.sum +ℤ pos (sums.shown * 9223372036854775808))
  pub greatest_sum : sums.sum ≤ℤ pos (sums.shown * 9223372036854775808)
  pub least_mix : pos 0 ≤ℤ (sums.mix +ℤ pos (sums.shown * 9223372036854775808))
  pub greatest_mix : sums.mix ≤ℤ pos (sums.shown * 9223372036854775808)

-- the values of some attributes of a node
abbrev pub values_of : CheckedTree → (words : List ℕ) → (node : ℕ) → (attributes : List ℕ) → List Value
values_of t words n attributes = map (λ a. table_of_words t words (instance_of (node_at t.tree n) a)) attributes

-- how much there is of what, in a summary
abbrev pub counts_text : (nodes instances : ℕ) → Sums → List ℕ
counts_text nodes instances sums =
    field (codes "nodes") (decimal nodes)
    ++ (field (codes "instances") (decimal instances)
    ++ (field (codes "shown") (decimal sums.shown) ++ field (codes "overflow") (decimal sums.overflows)))

-- and the sums
abbrev pub sums_text : Sums → List ℕ
sums_text sums =
    field (codes "sum") (signed_decimal sums.sum) ++ (field (codes "mix") (signed_decimal sums.mix) ++ codes "\n")

-- the line of a summary
abbrev pub summary_line : (grammar : List ℕ) → (nodes instances : ℕ) → Sums → List ℕ
summary_line grammar nodes instances sums =
    codes "grammar=" ++ (grammar ++ (counts_text nodes instances sums ++ sums_text sums))
