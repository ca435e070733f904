-- The names that the interfaces of a text show, and the attributes that are printed.
use Rattle.std.specs.Prelude.{◌≡◌, ◌↔◌, ℕ, ◌<◌, List, [], ◌∷◌, Contains, Some}
use Rattle.std.specs.List.{slice_get}
use Rattle.ftl_model.specs.layout.AttributeGrammar.{AttributeGrammar}
use Rattle.ftl_model.specs.layout.Boxes.{Names}
use Rattle.ftl_grammar.specs.syntax.Trees.{NameText}
use Rattle.ftl_grammar.specs.declared.syntax.rules.AttrDecl.{AttrDecl}
use Rattle.ftl_grammar.specs.declared.syntax.rules.Class.{Class}
use Rattle.ftl_grammar.specs.declared.syntax.rules.Grammar.{Grammar}
use Rattle.ftl_grammar.specs.declared.syntax.rules.Interface.{Interface}
use Rattle.ftl_meaning.specs.names.Places.{IsClass, IsInterface, Keeps}

-- a class of the text, whose interface this is
pub record IsClassUnder (g : Grammar) (m : AttributeGrammar) (k : ℕ) (y : Interface) : Type 0 where
  pub class : Class
  pub there : IsClass g k class
  pub under : IsInterface g (m.interface k) y

-- an attribute of the interface is shown where `show` has its name, and else isn't
abbrev pub ShowsItsNames : Keeps
ShowsItsNames g m names =
    (k : ℕ) (y : Interface) → IsClassUnder g m k y
    → (n a : ℕ) (d : AttrDecl)
    → slice_get (m.shared (m.interface k)) n ≡ Some a → slice_get y.attrs n ≡ Some d
    → Contains (names.shown k) a ↔ Contains y.shown d.name

-- what is shown is an attribute of the interface
abbrev pub ShowsItsOwn : Keeps
ShowsItsOwn g m names =
    (k : ℕ) (y : Interface) → IsClassUnder g m k y
    → (a : ℕ) → Contains (names.shown k) a → Contains (m.shared (m.interface k)) a

-- each number is smaller than all behind it
abbrev pub Rises : List ℕ → Type 0
Rises [] = Unit {0}
Rises (n ∷ ns) = ((m : ℕ) → Contains ns m → n < m) × Rises ns

-- what is shown stands in the order of the numbers, which is that of the declarations, each once
abbrev pub ShowsInOrder : Keeps
ShowsInOrder g m names = (k : ℕ) (y : Interface) → IsClassUnder g m k y → Rises (names.shown k)

-- just one attribute that the class shows has the name
pub record IsShownOnce (names : Names) (k : ℕ) (name : NameText) : Type 0 where
  pub attribute : ℕ
  pub shown : Contains (names.shown k) attribute
  pub named : names.attribute_name attribute ≡ name
  pub alone : (b : ℕ) → Contains (names.shown k) b → names.attribute_name b ≡ name → b ≡ attribute

-- each name of `show` has one
abbrev pub ShowsEachName : Keeps
ShowsEachName g m names =
    (k : ℕ) (y : Interface) → IsClassUnder g m k y
    → (name : NameText) → Contains y.shown name → IsShownOnce names k name
