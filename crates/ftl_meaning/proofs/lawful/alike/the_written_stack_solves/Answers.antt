use Rattle.ftl_base.specs.Widths.{greatest_of_width}
use Rattle.ftl_base.specs.declared.width.Width.{Width}
use Rattle.ftl_model.specs.layout.AttributeGrammar.{AttributeGrammar}
use Rattle.ftl_model.specs.layout.Stack.{stack_in}
use Rattle.ftl_meaning.specs.faults.Worked as written
use Rattle.ftl_meaning.specs.grammars.GrammarOf.{grammar_of}
use Rattle.ftl_meaning.proofs.grammars.StackMeaning.{stack_alike}
use Rattle.ftl_meaning.proofs.lawful.AlikeTrees.{same_solutions, same_trees}
use Rattle.ftl_meaning.proofs.lawful.Lawfulness.{faultless_lawful}
use Rattle.ftl_meaning.proofs.lawful.WorkedGrammars.{stack_faultless}
use Rattle.ftl_meaning.proofs.lawful.alike.the_written_stack_solves.Goals as goal

abbrev meant : Width → AttributeGrammar
meant width = grammar_of (greatest_of_width width) written.stack

abbrev by_hand : Width → AttributeGrammar
by_hand width = stack_in (greatest_of_width width)

pub returns : goal.returns
returns c = record {
  trees =
      λ width.
      same_trees (meant width) (by_hand width) (faultless_lawful written.stack width stack_faultless)
      (stack_alike (greatest_of_width width));
  solutions =
      λ width.
      same_solutions (meant width) (by_hand width) (faultless_lawful written.stack width stack_faultless)
      (stack_alike (greatest_of_width width));
}
