-- What look-ups by name find, as code has it.
use Rattle.std.specs.Prelude.{ℕ}
use Rattle.ftl_grammar.specs.declared.syntax.rules.AttrDecl.{AttrDecl}
use Rattle.ftl_grammar.specs.declared.syntax.rules.Child.{Child}
use Rattle.ftl_grammar.specs.declared.syntax.rules.Grammar.{Grammar}
use Rattle.ftl_checked.specs.declared.lookup.find.FoundAttr.{FoundAttr}
use Rattle.ftl_checked.specs.declared.lookup.find.FoundChild.{FoundChild}
use Rattle.ftl_meaning.specs.faults.Checked.{child_info}

-- an attribute with its number
abbrev pub found_attribute : ℕ × AttrDecl → FoundAttr
found_attribute a = record { number = a.0; kind = a.1.kind }

-- a child with its number
abbrev pub found_child : Grammar → ℕ × Child → FoundChild
found_child g c = record { number = c.0; info = child_info g c.1 }
