-- What stands at a place of a written grammar, and what a name there stands for. The words here and beside this file
-- speak of any grammar without names and any names for printing; the laws say them of those that a text means.
use Rattle.std.specs.Prelude.{◌≡◌, ℕ, Some, None}
use Rattle.std.specs.List.{slice_get}
use Rattle.ftl_model.specs.layout.AttributeGrammar.{AttributeGrammar}
use Rattle.ftl_model.specs.layout.Boxes.{Names}
use Rattle.ftl_grammar.specs.syntax.Trees.{NameText}
use Rattle.ftl_grammar.specs.declared.syntax.rules.Class.{Class}
use Rattle.ftl_grammar.specs.declared.syntax.rules.Grammar.{Grammar}
use Rattle.ftl_grammar.specs.declared.syntax.rules.Interface.{Interface}
use Rattle.ftl_meaning.specs.faults.FirstFault.{first_fault}
use Rattle.ftl_meaning.specs.grammars.GrammarOf.{grammar_of, names_of}

-- the interface at this place of the text, from 0
abbrev pub IsInterface : Grammar → ℕ → Interface → Type 0
IsInterface g i x = slice_get g.interfaces i ≡ Some x

-- the class at this place of the text, from 0
abbrev pub IsClass : Grammar → ℕ → Class → Type 0
IsClass g k x = slice_get g.classes k ≡ Some x

-- the interface at this place has the name, and no other one has
pub record IsNamed (g : Grammar) (name : NameText) (i : ℕ) : Type 0 where
  pub interface : Interface
  pub there : IsInterface g i interface
  pub named : interface.name ≡ name
  pub alone : (j : ℕ) (other : Interface) → IsInterface g j other → other.name ≡ name → j ≡ i

-- what may hold between a written grammar, one with its names gone, and names for printing
abbrev pub Keeps : Type 1
Keeps = Grammar → AttributeGrammar → Names → Type 0

-- of each written grammar, what it means and its names
abbrev pub OfMeanings : Keeps → Type 0
OfMeanings P = (greatest : ℕ) (g : Grammar) → P g (grammar_of greatest g) (names_of g)

-- the same of each grammar without a fault
abbrev pub OfRightMeanings : Keeps → Type 0
OfRightMeanings P = (greatest : ℕ) (g : Grammar) → first_fault g ≡ None → P g (grammar_of greatest g) (names_of g)
