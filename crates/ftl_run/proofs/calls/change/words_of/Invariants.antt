use Rattle.std.proofs.Common.{◌≡◌, ◌++◌, drop, map}
use Rattle.ftl_tree.specs.boxes.WordValues.{value_of_word}
use Rattle.ftl_run.proofs.calls.change.words_of.Given as goal

-- the values that the words so far stand for, and those that are left
abbrev pub invariant-loop-place : goal.invariant-loop-place
invariant-loop-place l = map value_of_word l.words.items ++ drop l.place l.values ≡ l.values
