-- The faults of names, entry by entry.
use Rattle.std.specs.Prelude.{ℕ, not, List, [], ◌∷◌, Option}
use Rattle.ftl_grammar.specs.syntax.Trees.{NameText}
use Rattle.ftl_grammar.specs.declared.syntax.rules.Child.{Child}
use Rattle.ftl_grammar.specs.declared.syntax.rules.Class.{Class}
use Rattle.ftl_grammar.specs.declared.syntax.rules.Grammar.{Grammar}
use Rattle.ftl_grammar.specs.declared.syntax.rules.Interface.{Interface}
use Rattle.ftl_meaning.specs.declared.faults.fault.GrammarFault.{GrammarFault}
use Rattle.ftl_meaning.specs.declared.faults.fault.GrammarFault.TheVariants as fault
use Rattle.ftl_meaning.specs.faults.FirstFault.{attribute_names, fault_if, first_of, first_there, twice_in_class}
use Rattle.ftl_meaning.specs.faults.FirstFault.{twice_in_interface}
use Rattle.ftl_meaning.specs.faults.Numbering.{interface_names, is_among, numbered}

-- a name that is none of those that are known
unfoldable pub unknown_fault : (known : List NameText) → NameText → Option GrammarFault
unknown_fault known name = fault_if (not (is_among known name)) (fault.UnknownName name)

-- a shown name of an interface that is none of its attributes
unfoldable pub shown_fault : Interface → Option GrammarFault
shown_fault x = first_of (unknown_fault (attribute_names x.attrs)) x.shown

-- a child whose interface is none
unfoldable pub kid_interface_fault : Grammar → Child → Option GrammarFault
kid_interface_fault g c = unknown_fault (interface_names g) c.interface

-- a class whose interface is none, or a child's
unfoldable pub interfaces_fault : Grammar → Class → Option GrammarFault
interfaces_fault g x =
    first_there (unknown_fault (interface_names g) x.interface ∷ first_of (kid_interface_fault g) x.children ∷ [])

-- a name that stands twice in an interface
unfoldable pub once_fault : Interface → Option GrammarFault
once_fault x = twice_in_interface x

-- a name that stands twice in a class
unfoldable pub class_once_fault : Grammar → (class : ℕ) → Option GrammarFault
class_once_fault g k = twice_in_class g k

-- a name that stands twice in one of these classes, which are numbered from this one on
unfoldable pub classes_fault : Grammar → ℕ → List Class → Option GrammarFault
classes_fault g n xs = first_of (λ k. class_once_fault g k.0) (numbered n xs)
