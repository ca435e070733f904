use Rattle.std.proofs.Common.{string_bytes}
use Rattle.ftl_showing.specs.lines.Whys.{AppendsWhyLines}
use Rattle.ftl_showing.proofs.lines.why.push_lines.Given as goal

-- the lines so far
abbrev pub invariant-loop-line : goal.invariant-loop-line
invariant-loop-line l = AppendsWhyLines l.page (string_bytes l.fn.out) (string_bytes l.out)
