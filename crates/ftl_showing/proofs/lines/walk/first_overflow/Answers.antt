use Rattle.std.proofs.Common.{◌≡◌, false, sym, subst, arith}
use Rattle.std.proofs.lemmas.List.{take_all}
use Rattle.std.proofs.lemmas.List.Elements.{All-more}
use Rattle.ftl_showing.specs.lines.Whys.{AreNumbersOn, is_overflow_on}
use Rattle.ftl_showing.proofs.lines.walk.first_overflow.Goals as goal

pub loop-instance-preserved : goal.loop-instance-preserved
loop-instance-preserved c =
    All-more (λ i. is_overflow_on c.args.page.now i ≡ false) c.args.instances.now c.loop-instance.instance-index 0
    c.loop-instance-test.true c.loop-instance.invariant (sym c.if-is_overflow.ensures.overflow)

pub returns-clause-none : goal.returns-clause-none
returns-clause-none c = λ none.
    subst (AreNumbersOn c.args.page.now)
    (take_all c.loop-instance.instance-index c.args.instances.now (omega (arith, c.loop-instance-test.false)))
    c.loop-instance.invariant
