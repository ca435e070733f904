use Rattle.std.proofs.Common.{◌≤◌, arith}
use Rattle.ftl_tokens.proofs.reading.NarrowLemmas.{at_most-step, take_number-small}
use Rattle.ftl_tokens.proofs.reading.input.Input.number.Goals as goal
use Rattle.ftl_tokens.proofs.reading.input.Input.number.Goals.{In_ok-number}

pub invariant_of-self : goal.invariant_of-self
invariant_of-self c = at_most-step 2147483647 c.self.inside.wide c.number.new.self c.self.invariant c.number.ensures.step

pub invariant_of-self-2 : goal.invariant_of-self-2
invariant_of-self-2 c = at_most-step 2147483647 c.self.inside.wide c.number.new.self c.self.invariant c.number.ensures.step

-- the number is one of the text's
small : (c : In_ok-number) → c.in_ok-number.number ≤ 2147483647
small c = take_number-small 2147483647 c.self.inside.wide c.number.new.self c.in_ok-number.number c.self.invariant c.in_ok-number.ensures.reads

pub overflow_cast-result : goal.overflow_cast-result
overflow_cast-result c = omega (arith, small c)

pub returns-clause-small : goal.returns-clause-small
returns-clause-small c = small c
