use Rattle.std.proofs.Common.{◌≡◌, ◌++◌, drop, map}
use Rattle.ftl_tree.specs.boxes.WordValues.{value_of_word}
use Rattle.ftl_run.proofs.calls.change.values_of.Given as goal

-- the values so far, and those of the words that are left
abbrev pub invariant-loop-place : goal.invariant-loop-place
invariant-loop-place l =
    l.values.items ++ map value_of_word (drop l.place l.words) ≡ map value_of_word l.words
