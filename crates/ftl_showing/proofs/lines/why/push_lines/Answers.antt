-- The line of a step follows those before it.
use Rattle.std.proofs.Common.{Option, subst, string_bytes}
use Rattle.std.specs.Option.{IfSome}
use Rattle.ftl_showing.specs.declared.lines.walk.Step.{Step}
use Rattle.ftl_showing.specs.lines.Whys.{IsStepOn}
use Rattle.ftl_showing.proofs.lines.WhyLemmas.{one_line}
use Rattle.ftl_showing.proofs.lines.why.push_lines.Goals as goal

pub push_line-requires-clause-step : goal.push_line-requires-clause-step
push_line-requires-clause-step c =
    subst (λ (o : Option Step). IfSome o (IsStepOn c.args.page.now)) c.in-Some.is c.in_ok-step.ensures.known

pub loop-line-preserved : goal.loop-line-preserved
loop-line-preserved c =
    one_line c.args.page.now (string_bytes c.args.out.now) (string_bytes c.loop-line.out)
    (string_bytes c.push_line.new.out) c.in-Some.step c.loop-line.invariant
    (subst (λ (o : Option Step). IfSome o (IsStepOn c.args.page.now)) c.in-Some.is c.in_ok-step.ensures.known)
    c.in_ok-push_line.ensures.text
