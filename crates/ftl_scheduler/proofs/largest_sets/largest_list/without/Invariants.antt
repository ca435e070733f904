use Rattle.std.proofs.Common.{◌≡◌, not, filter, drop, ◌++◌}
use Rattle.std.specs.FinSet as set
use Rattle.ftl_scheduler.proofs.largest_sets.largest_list.without.Given as goal

abbrev pub invariant-loop-attr : goal.invariant-loop-attr
invariant-loop-attr l =
    l.left.items ++ filter (λ a. not (set.contains l.row a)) (drop l.attr-index l.attrs)
    ≡ filter (λ a. not (set.contains l.row a)) l.attrs
