use Rattle.std.proofs.Common.{◌≡◌, ◌++◌, map, take}
use Rattle.ftl_meaning.specs.faults.Numbering.{interface_names}
use Rattle.ftl_checked.proofs.lookup.tables.grammar_names.Given as goal

abbrev pub invariant-loop-interface : goal.invariant-loop-interface
invariant-loop-interface l = l.names ≡ map (λ x. x.name) (take l.interface-index l.grammar.interfaces)

abbrev pub invariant-loop-class : goal.invariant-loop-class
invariant-loop-class l = l.names ≡ interface_names l.grammar ++ map (λ x. x.name) (take l.class-index l.grammar.classes)
