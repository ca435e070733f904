-- The summary of a sample: how many nodes, instances and shown values there are, and sums of the shown values.
use Rattle.std.specs.Prelude.{ℕ, ◌+◌, ◌%◌, List, [], ◌∷◌, ◌++◌, codes, filter, flat_map, length, map, ℤ, pos, ◌+ℤ◌, ◌*ℤ◌}
use Rattle.std.specs.Fmt.{decimal, signed_decimal}
use Rattle.ftl_model.specs.layout.AttributeGrammar.{AttributeGrammar}
use Rattle.ftl_model.specs.layout.Boxes.{Names, is_overflow}
use Rattle.ftl_model.specs.layout.Path.{Path, class_at, preorder}
use Rattle.ftl_model.specs.layout.Solves.{Instance, instance_of}
use Rattle.ftl_model.specs.layout.Table.{instance_count}
use Rattle.ftl_model.specs.layout.Tree.{Forest, size}
use Rattle.ftl_model.specs.layout.Values.{Value, number, overflow}

-- the values that a node shows
abbrev pub values_at : Names → Forest → (Instance → Value) → Path → List Value
values_at names t s p = map (λ a. s (instance_of p a)) (names.shown (class_at t p))

-- all shown values, in the order in which they are printed
abbrev pub shown_values : Names → Forest → (Instance → Value) → List Value
shown_values names t s = flat_map (values_at names t s) (preorder t)

-- the number of a value; 0 for Overflow
abbrev pub number_or_zero : Value → ℤ
number_or_zero (number n) = n
number_or_zero overflow = pos 0

-- the sum of the numbers, each times a weight that its place has, from this place on
abbrev pub weighted_sum : (weight : ℕ → ℕ) → (place : ℕ) → List Value → ℤ
weighted_sum weight place [] = pos 0
weighted_sum weight place (v ∷ values) =
    (number_or_zero v *ℤ pos (weight place)) +ℤ weighted_sum weight (place + 1) values

-- each number once
abbrev pub once : ℕ → ℕ
once place = 1

-- from 1 to 1000, over and over
abbrev pub mixed : ℕ → ℕ
mixed place = (place % 1000) + 1

-- a word, `=` and a text, after a space
abbrev pub field : (word text : List ℕ) → List ℕ
field word text = codes " " ++ (word ++ (codes "=" ++ text))

-- how many values are Overflow
abbrev pub overflow_count : List Value → ℕ
overflow_count values = length (filter is_overflow values)

-- the summary of a table, in one line
abbrev pub summary : (grammar : List ℕ) → AttributeGrammar → Names → Forest → (Instance → Value) → List ℕ
summary grammar g names t s =
    let values = shown_values names t s in
    codes "grammar=" ++ (grammar
    ++ (field (codes "nodes") (decimal (size t))
    ++ (field (codes "instances") (decimal (instance_count g t))
    ++ (field (codes "shown") (decimal (length values))
    ++ (field (codes "overflow") (decimal (overflow_count values))
    ++ (field (codes "sum") (signed_decimal (weighted_sum once 0 values))
    ++ (field (codes "mix") (signed_decimal (weighted_sum mixed 0 values)) ++ codes "\n")))))))
