use Rattle.std.proofs.Common.{◌≡◌, ℕ, map, slice_index_or, take}
use Rattle.ftl_tree.proofs.trees.build.firsts_of_kids.Given as goal

-- the first instances so far
abbrev pub invariant-loop-kid : goal.invariant-loop-kid
invariant-loop-kid l =
    l.firsts.items ≡ map (λ (kid : ℕ). slice_index_or l.first_instances kid 0) (take l.kid-index l.kids)
