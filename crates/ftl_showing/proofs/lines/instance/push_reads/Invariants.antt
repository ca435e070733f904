use Rattle.std.proofs.Common.{◌≡◌, ◌++◌, flat_map, string_bytes, take}
use Rattle.ftl_showing.specs.lines.Details.{read_text}
use Rattle.ftl_showing.proofs.lines.instance.push_reads.Given as goal

-- the instances so far
abbrev pub invariant-loop-instance : goal.invariant-loop-instance
invariant-loop-instance l =
    string_bytes l.out
    ≡ string_bytes l.fn.out ++ flat_map (read_text l.page) (take l.instance-index l.instances)
