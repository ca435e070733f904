use Rattle.std.proofs.Common.{◌≡◌, ◌++◌, drop, flat_map, map}
use Rattle.ftl_meaning.specs.faults.FirstFault.{class_fault, first_of}
use Rattle.ftl_checked.specs.grammars.MissingRules.{infos_of, reads_of_class}
use Rattle.ftl_checked.specs.grammars.ReadNumbers.{leaves_in}
use Rattle.ftl_meaning.specs.faults.Numbering.{numbered}
use Rattle.ftl_checked.proofs.grammars.class_checks.all_classes.Given as goal

abbrev pub invariant-loop-number : goal.invariant-loop-number
invariant-loop-number l = record {
  faults : first_of (λ k. class_fault l.grammar k.0) (numbered 0 l.grammar.classes)
      ≡ first_of (λ k. class_fault l.grammar k.0) (numbered l.number (drop l.number l.grammar.classes));
  infos : l.so_far.infos ++ flat_map (infos_of l.grammar) (numbered l.number (drop l.number l.grammar.classes))
      ≡ l.initial.so_far.infos ++ flat_map (infos_of l.grammar) (numbered 0 l.grammar.classes);
  reads : map (map leaves_in) l.so_far.reads
      ++ flat_map (reads_of_class l.grammar) (numbered l.number (drop l.number l.grammar.classes))
      ≡ map (map leaves_in) l.initial.so_far.reads ++ flat_map (reads_of_class l.grammar) (numbered 0 l.grammar.classes);
}
