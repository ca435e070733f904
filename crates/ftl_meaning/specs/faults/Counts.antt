-- Counts that 32 bits hold, as those of a grammar that a text of 64 MiB spells.
use Rattle.std.specs.Prelude.{ℕ, ◌+◌, ◌<◌, length, flat_map}
use Rattle.std.specs.List.{All}
use Rattle.ftl_grammar.specs.declared.syntax.rules.Class.{Class}
use Rattle.ftl_grammar.specs.declared.syntax.rules.Grammar.{Grammar}
use Rattle.ftl_grammar.specs.declared.syntax.rules.Interface.{Interface}
use Rattle.ftl_grammar.specs.declared.syntax.rules.Rule.{Rule}
use Rattle.ftl_meaning.specs.faults.FirstFault.{read_count}
use Rattle.ftl_meaning.specs.faults.Numbering.{own_count, shared_count}
use Rattle.ftl_meaning.specs.faults.RuleForms.{expressions_of}

-- a count that 32 bits hold
abbrev pub IsSmall : ℕ → Type 0
IsSmall n = n < 4294967296

-- the attributes of an interface, and those that it shows
pub record HasSmallInterface (x : Interface) : Type 0 where
  pub attrs : IsSmall (length x.attrs)
  pub shown : IsSmall (length x.shown)

-- the reads of each expression of a rule
abbrev pub HasSmallRule : Rule → Type 0
HasSmallRule r = All (λ e. IsSmall (read_count e)) (expressions_of r.body)

-- the own attributes, children and rules of a class
pub record HasSmallClass (x : Class) : Type 0 where
  pub attrs : IsSmall (length x.attrs)
  pub children : IsSmall (length x.children)
  pub rules : All HasSmallRule x.rules

-- all counts of a grammar
pub record HasSmallCounts (g : Grammar) : Type 0 where
  pub interfaces : IsSmall (length g.interfaces)
  pub classes : IsSmall (length g.classes)
  pub attributes : IsSmall (shared_count g.interfaces + own_count g.classes)
  pub rules : IsSmall (length (flat_map (λ k. k.rules) g.classes))
  pub each_interface : All HasSmallInterface g.interfaces
  pub each_class : All HasSmallClass g.classes
