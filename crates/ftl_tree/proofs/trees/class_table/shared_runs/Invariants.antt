use Rattle.std.proofs.Common.{◌≡◌, length, map, take}
use Rattle.ftl_grammar.specs.declared.syntax.rules.Interface.{Interface}
use Rattle.ftl_tree.proofs.trees.class_table.shared_runs.Given as goal

-- the counts so far
abbrev pub invariant-loop-interface : goal.invariant-loop-interface
invariant-loop-interface l = l.counts.items ≡ map (λ (x : Interface). length x.attrs) (take l.interface-index l.interfaces)
