use Rattle.std.proofs.Common.{◌≡◌, ◌+◌, ◌++◌, map, take, drop}
use Rattle.ftl_meaning.specs.faults.Numbering.{numbered, own_count, shared_count}
use Rattle.ftl_checked.specs.lookup.Tables.{class_entry}
use Rattle.ftl_checked.proofs.lookup.tables.class_tables.Given as goal

abbrev pub invariant-loop-class : goal.invariant-loop-class
invariant-loop-class l = record {
  built : l.tables ++ map (class_entry l.grammar) (numbered l.class-index (drop l.class-index l.grammar.classes))
      ≡ map (class_entry l.grammar) (numbered 0 l.grammar.classes);
  at : l.start ≡ shared_count l.grammar.interfaces + own_count (take l.class-index l.grammar.classes);
}
