use Rattle.std.proofs.Common.{◌≡◌, ◌++◌, flat_map, Some}
use Rattle.ftl_deps.specs.reads.Meant.{meant}
use Rattle.ftl_visit.specs.visits.Visits.{rule_in}
use Rattle.ftl_visit.proofs.visits.blocks.add_kid_rules.Given as goal
use Rattle.std.specs.List.{range_with_len}

abbrev pub invariant-loop-child : goal.invariant-loop-child
invariant-loop-child l =
    l.ops
    ≡ l.initial.ops ++ flat_map (λ c. rule_in (meant l.index) l.class (Some c) l.attr) (range_with_len 0 l.child)
