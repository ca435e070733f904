use Rattle.std.proofs.Common.{◌<◌, ℕ}
use Rattle.ftl_noncircular.specs.search.Closing.{HasNone}
use Rattle.ftl_noncircular.proofs.search.searching.first_circular.Given as goal

abbrev pub ghost-class_walks : goal.ghost-class_walks
ghost-class_walks g a = g.g

abbrev pub ghost-find_pairs : goal.ghost-find_pairs
ghost-find_pairs g a = g.g

abbrev pub ghost-circle_in : goal.ghost-circle_in
ghost-circle_in g a = g.g

abbrev pub invariant-loop-class : goal.invariant-loop-class
invariant-loop-class g l = (k : ℕ) → k < l.class → HasNone g.g k
