-- The attributes that a text declares, and those of a grammar with its names gone.
use Rattle.std.specs.Prelude.{◌≡◌, ◌↔◌, ℕ, ◌<◌, List, [], ◌∷◌, ◌++◌, length, flat_map, Contains}
use Rattle.std.specs.List.{range_with_len}
use Rattle.ftl_model.specs.lists.Lists.{AreDistinct}
use Rattle.ftl_model.specs.layout.AttributeGrammar as model
use Rattle.ftl_model.specs.layout.AttributeGrammar.{Sort}
use Rattle.ftl_order.specs.orders.Lawful.{declared}
use Rattle.ftl_grammar.specs.syntax.Trees.{NameText}
use Rattle.ftl_grammar.specs.declared.syntax.rules.AttrDecl.{AttrDecl}
use Rattle.ftl_grammar.specs.declared.syntax.rules.AttrKind.{AttrKind}
use Rattle.ftl_grammar.specs.declared.syntax.rules.AttrKind.TheVariants as kinds
use Rattle.ftl_grammar.specs.declared.syntax.rules.Class.{Class}
use Rattle.ftl_grammar.specs.declared.syntax.rules.Grammar.{Grammar}
use Rattle.ftl_grammar.specs.declared.syntax.rules.Interface.{Interface}
use Rattle.ftl_meaning.specs.names.Places.{IsClass, IsInterface, Keeps}

-- the declarations of all interfaces and then of all classes, in the order of the text
abbrev pub declarations : Grammar → List AttrDecl
declarations g = flat_map (λ x. x.attrs) g.interfaces ++ flat_map (λ x. x.attrs) g.classes

-- the sort of an attribute that this word declares: `inh`, `syn`, `input` or `local`
abbrev pub IsSortOf : AttrKind → Sort → Type 0
IsSortOf kinds.Inh sort = sort ≡ model.inherited
IsSortOf kinds.Syn sort = sort ≡ model.synthesized
IsSortOf kinds.Input sort = sort ≡ model.input
IsSortOf kinds.Local sort = sort ≡ model.local

-- the number has the sort and the printed name of the declaration
pub record IsOf (sorts : ℕ → Sort) (printed : ℕ → NameText) (a : ℕ) (d : AttrDecl) : Type 0 where
  pub sort : IsSortOf d.kind (sorts a)
  pub name : printed a ≡ d.name

-- as many numbers as declarations, each of the declaration at its place
abbrev pub AreOf : (sorts : ℕ → Sort) → (printed : ℕ → NameText) → List ℕ → List AttrDecl → Type 0
AreOf sorts printed [] [] = Unit {0}
AreOf sorts printed [] (d ∷ ds) = ⊥
AreOf sorts printed (n ∷ ns) [] = ⊥
AreOf sorts printed (n ∷ ns) (d ∷ ds) = IsOf sorts printed n d × AreOf sorts printed ns ds

-- there are as many numbers as declarations
abbrev pub AttributesAreCounted : Keeps
AttributesAreCounted g m names = m.attribute_count ≡ length (declarations g)

-- the attributes of each interface are those that it declares, in that order
abbrev pub SharedAreKept : Keeps
SharedAreKept g m names =
    (i : ℕ) (x : Interface) → IsInterface g i x → AreOf m.sort names.attribute_name (m.shared i) x.attrs

-- the attributes that each class adds are those that it declares, in that order
abbrev pub PrivateAreKept : Keeps
PrivateAreKept g m names =
    (k : ℕ) (x : Class) → IsClass g k x → AreOf m.sort names.attribute_name (m.private k) x.attrs

-- the attributes of all interfaces and then of all classes have the numbers from 0, in the order of the text
abbrev pub NumbersFollowTheText : Keeps
NumbersFollowTheText g m names = declared m ≡ range_with_len 0 (length (declarations g))

-- no two declarations have one number
abbrev pub NumbersAreDistinct : Keeps
NumbersAreDistinct g m names = AreDistinct (declared m)

-- each number below the count is a declaration's, and no other number is
abbrev pub NumbersAreDeclared : Keeps
NumbersAreDeclared g m names = (a : ℕ) → (a < m.attribute_count) ↔ Contains (declared m) a
