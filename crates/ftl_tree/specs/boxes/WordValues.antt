-- The values that words stand for.
use Rattle.std.specs.Prelude.{◌≡◌, ℕ, ◌&&◌, if◌then◌else◌, nat_lt, List, map, pos, ◌-ℤ◌}
use Rattle.ftl_model.specs.layout.Solves.{Instance}
use Rattle.ftl_model.specs.layout.Table.{value_in}
use Rattle.ftl_model.specs.layout.Values.{Value, IsValue, number, overflow, overflow_word, word_of_value, zero_word}
use Rattle.ftl_deps.specs.reads.Meant.{meant}
use Rattle.ftl_tree.specs.trees.CheckedTree.{CheckedTree}

-- the value whose word it is; what is the word of none stands for Overflow too
abbrev pub value_of_word : ℕ → Value
value_of_word w =
    if nat_lt 0 w && nat_lt w overflow_word then number (pos w -ℤ pos zero_word) else overflow

-- the value of each instance, by its word
abbrev pub table_of_words : CheckedTree → (words : List ℕ) → Instance → Value
table_of_words t words = value_in (meant t.checked) t.tree (map value_of_word words)

-- the value that a value's word stands for is that value
abbrev pub WordsAreUndone : Type 0
WordsAreUndone = (v : Value) → IsValue v → value_of_word (word_of_value v) ≡ v
