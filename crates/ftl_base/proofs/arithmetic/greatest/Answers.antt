use Rattle.std.proofs.Common.{arith}
use Rattle.std.proofs.lemmas.Int.{ints, clamps, to_z-of_z}
use Rattle.ftl_base.proofs.Held.{value_of-max}
use Rattle.ftl_base.proofs.arithmetic.greatest.Goals as goal

pub invariant_of-result : goal.invariant_of-result
invariant_of-result c = (omega (arith, ints, clamps), omega (arith, ints, clamps))

pub returns : goal.returns
returns c = record { greatest = grind (arith, to_z-of_z, value_of-max) }
