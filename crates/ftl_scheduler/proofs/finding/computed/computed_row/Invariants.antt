use Rattle.std.proofs.Common.{not}
use Rattle.ftl_model.specs.layout.AttributeGrammar.{is_input}
use Rattle.ftl_deps.specs.reads.Meant.{meant}
use Rattle.ftl_scheduler.proofs.largest_sets.Marks.{IsMarked}
use Rattle.ftl_scheduler.proofs.finding.computed.computed_row.Given as goal

abbrev pub invariant-loop-attr : goal.invariant-loop-attr
invariant-loop-attr l = IsMarked (λ a. not (is_input ((meant l.checked).sort a))) l.row l.attr
