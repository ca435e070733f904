use Rattle.std.proofs.Common.{◌≡◌, ◌++◌, take}
use Rattle.std.specs.List.{flat_map}
use Rattle.ftl_answer.specs.explanations.Rows.{numbered_line}
use Rattle.ftl_answer.proofs.explanations.print.add_lines.Given as goal

-- the lines so far
abbrev pub invariant-loop-instance : goal.invariant-loop-instance
invariant-loop-instance l =
    l.out.items ≡ l.fn.out.items ++ flat_map (numbered_line l.tree) (take l.instance-index l.order)
