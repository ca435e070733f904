use Rattle.std.proofs.Common.{◌≡◌, length, map, take}
use Rattle.ftl_grammar.specs.declared.syntax.rules.Class.{Class}
use Rattle.ftl_tree.proofs.trees.class_table.own_runs.Given as goal

-- the counts so far
abbrev pub invariant-loop-class : goal.invariant-loop-class
invariant-loop-class l = l.counts.items ≡ map (λ (x : Class). length x.attrs) (take l.class-index l.classes)
