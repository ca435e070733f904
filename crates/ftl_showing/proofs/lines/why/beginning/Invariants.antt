use Rattle.ftl_showing.specs.lines.Whys.{IsOverflowOn}
use Rattle.ftl_showing.proofs.lines.why.beginning.Given as goal

-- where the search has come to is an Overflow
abbrev pub invariant-loop-read : goal.invariant-loop-read
invariant-loop-read l = IsOverflowOn l.page l.at
