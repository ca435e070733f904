use Rattle.ftl_tokens.proofs.reading.NarrowLemmas.{at_most-step}
use Rattle.ftl_tokens.proofs.reading.input.Input.take_name_of.Goals as goal

pub invariant_of-self : goal.invariant_of-self
invariant_of-self c = at_most-step 2147483647 _ _ c.self.invariant c.take_name_of.ensures.step
