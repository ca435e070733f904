use Rattle.std.proofs.Common.{◌≡◌, ◌++◌, string_bytes}
use Rattle.ftl_showing.specs.lines.Lines.{indentation}
use Rattle.ftl_showing.proofs.lines.depth.push_indentation.Given as goal

abbrev pub invariant-loop-level : goal.invariant-loop-level
invariant-loop-level l = string_bytes l.out ≡ string_bytes l.fn.out ++ indentation l._level
