-- Where an expression of a rule stands, as code has it.
use Rattle.std.specs.Prelude.{ℕ, ◌<◌, length}
use Rattle.ftl_grammar.specs.declared.syntax.rules.Grammar.{Grammar}
use Rattle.ftl_checked.specs.declared.grammars.reading.At.{At}
use Rattle.ftl_checked.specs.declared.grammars.reading.At.TheVariants as at
use Rattle.ftl_meaning.specs.faults.Allowed.{Position, for_kids, for_later, for_self, for_single}
use Rattle.ftl_meaning.specs.faults.Allowed.{in_step}
use Rattle.ftl_meaning.specs.faults.Numbering.{class_at}

-- the position that code calls so
abbrev pub position_of : At → Position
position_of at.ForSelf = for_self
position_of at.ForSingle = for_single
position_of (at.ForKids c) = for_kids c
position_of (at.ForLater c) = for_later c
position_of (at.InStep c) = in_step c

-- the child that a position names is one of the class
abbrev pub IsWithin : Grammar → (class : ℕ) → At → Type 0
IsWithin g k at.ForSelf = Unit {0}
IsWithin g k at.ForSingle = Unit {0}
IsWithin g k (at.ForKids c) = c < length (class_at g k).children
IsWithin g k (at.ForLater c) = c < length (class_at g k).children
IsWithin g k (at.InStep c) = c < length (class_at g k).children
