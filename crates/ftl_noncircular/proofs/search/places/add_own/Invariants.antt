use Rattle.std.proofs.Common.{◌≡◌, ◌++◌, flat_map, length, take}
use Rattle.std.specs.List.{range_with_len}
use Rattle.ftl_grammar.specs.declared.syntax.rules.Class.{Class}
use Rattle.ftl_noncircular.proofs.search.places.add_own.Given as goal

-- those of the classes so far
abbrev pub invariant-loop-class : goal.invariant-loop-class
invariant-loop-class l =
    l.places
    ≡ l.initial.places
    ++ flat_map (λ (x : Class). range_with_len 64 (length x.attrs)) (take l.class-index l.classes)
