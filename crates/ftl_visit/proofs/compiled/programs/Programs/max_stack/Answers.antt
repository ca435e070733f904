use Rattle.std.proofs.Common.{◌≤◌, IfSome, subst}
use Rattle.ftl_base.specs.Widths.{greatest_of_width}
use Rattle.ftl_visit.specs.rule_code.Depth.{depth_of}
use Rattle.ftl_visit.specs.compiled.RuleCode.{Compiled, code_at}
use Rattle.ftl_visit.proofs.compiled.programs.Programs.max_stack.Goals as goal

pub returns-clause-enough : goal.returns-clause-enough
returns-clause-enough c = λ rule part.
    subst (λ (p : Compiled). IfSome (code_at p rule part) (λ code. depth_of code ≤ c.room_of.result)) c.self.view_is
    (c.room_of.ensures.enough (greatest_of_width c.self.inside.width) c.self.invariant rule part)
