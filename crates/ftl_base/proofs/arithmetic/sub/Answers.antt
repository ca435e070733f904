use Rattle.std.proofs.Common.{◌∙◌}
use Rattle.ftl_base.proofs.Exact.{value_of-difference}
use Rattle.ftl_base.proofs.arithmetic.sub.Goals as goal

pub returns-in-Some-Some : goal.returns-in-Some-Some
returns-in-Some-Some c =
    let a = c.in-Some-Some.ensures in
    let b = c.in-Some-Some.ensures' in
    let exact = value_of-difference _ _ _ c.in-Some-Some.m c.in-Some-Some.n a.number b.number a.in_range b.in_range in
    record { difference = c.value.ensures.value ∙ exact }
