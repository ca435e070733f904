use Rattle.std.proofs.Common.{◌≡◌, ◌++◌, flat_map}
use Rattle.ftl_deps.specs.reads.Meant.{meant}
use Rattle.ftl_visit.specs.visits.Visits.{child_block}
use Rattle.ftl_visit.proofs.visits.blocks.add_blocks.Given as goal
use Rattle.std.specs.List.{range_with_len}

abbrev pub invariant-loop-child : goal.invariant-loop-child
invariant-loop-child l =
    l.ops
    ≡ l.initial.ops ++ flat_map (child_block (meant l.index) l.class l.attrs) (range_with_len 0 l.child)
