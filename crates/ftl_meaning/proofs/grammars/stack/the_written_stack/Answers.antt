use Rattle.ftl_meaning.proofs.grammars.StackMeaning.{names_alike, stack_alike}
use Rattle.ftl_meaning.proofs.grammars.stack.the_written_stack.Goals as goal

pub returns : goal.returns
returns c = record { grammar = stack_alike; names = names_alike }
