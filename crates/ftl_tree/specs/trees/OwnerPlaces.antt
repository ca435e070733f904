-- The places of attributes, in the order of their numbers.
use Rattle.std.specs.Prelude.{ℕ, List, flat_map, length}
use Rattle.std.specs.List.{range_with_len}
use Rattle.ftl_grammar.specs.declared.syntax.rules.Grammar.{Grammar}
use Rattle.ftl_meaning.specs.faults.Numbering.{interface_at, interface_number}

-- the attributes of interfaces: each counts those before it in its interface
abbrev pub shared_places : Grammar → List ℕ
shared_places g = flat_map (λ x. range_with_len 0 (length x.attrs)) g.interfaces

-- the attributes of classes: each counts those of the interface, and those before it in its class
abbrev pub own_places : Grammar → List ℕ
own_places g =
    flat_map
    (λ x. range_with_len (length (interface_at g (interface_number g x.interface)).attrs) (length x.attrs))
    g.classes
