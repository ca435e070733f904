use Rattle.std.proofs.Common.{◌≡◌, ◌++◌, map, take, drop}
use Rattle.ftl_meaning.specs.faults.Numbering.{numbered, shared_count}
use Rattle.ftl_meaning.specs.grammars.GrammarOf.{shown_attributes}
use Rattle.ftl_tree.specs.boxes.Shows.{shown_rows}
use Rattle.ftl_tree.proofs.boxes.shown.shown_rows.Given as goal

abbrev pub invariant-loop-interface : goal.invariant-loop-interface
invariant-loop-interface l = record {
  built : l.rows ++ map (λ x. shown_attributes l.checked.grammar x.0)
      (numbered l.interface (drop l.interface l.checked.grammar.interfaces))
      ≡ shown_rows l.checked.grammar;
  at : l.first ≡ shared_count (take l.interface l.checked.grammar.interfaces);
}
