use Rattle.std.proofs.Common.{List, ℕ, sym, subst}
use Rattle.ftl_grammar.specs.printing.TextOf.{IsTextOf}
use Rattle.ftl_meaning.specs.faults.Worked as worked
use Rattle.ftl_grammar_texts.proofs.StackText.{stack_is_spelled}
use Rattle.ftl_grammar_texts.proofs.shipped.the_shipped_stack.Goals as goal

pub returns : goal.returns
returns c = record {
  text = stack_is_spelled;
  read = λ scanned answer same tokens told reads.
      c.printed_grammars_are_read.ensures.texts scanned worked.stack answer tokens
      (subst (λ (text : List ℕ). IsTextOf text worked.stack) (sym same) stack_is_spelled) told reads;
  lawful = c.grammars_without_a_fault.ensures.stack;
  grammar = c.the_written_stack.ensures.grammar;
  names = c.the_written_stack.ensures.names;
}
