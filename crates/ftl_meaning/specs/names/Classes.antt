-- The classes, their children and the root of a text, and those of a grammar with its names gone.
use Rattle.std.specs.Prelude.{◌≡◌, ℕ, length, Some}
use Rattle.std.specs.List.{slice_get}
use Rattle.ftl_grammar.specs.declared.syntax.rules.Child.{Child}
use Rattle.ftl_grammar.specs.declared.syntax.rules.Class.{Class}
use Rattle.ftl_meaning.specs.names.Places.{IsClass, IsNamed, Keeps}

-- ---- classes

-- there are as many interfaces as are declared
abbrev pub InterfacesAreCounted : Keeps
InterfacesAreCounted g m names = m.interface_count ≡ length g.interfaces

-- there are as many classes as are declared
abbrev pub ClassesAreCounted : Keeps
ClassesAreCounted g m names = m.class_count ≡ length g.classes

-- the interface of each class is the one of the name that the class gives
abbrev pub ClassInterfacesAreKept : Keeps
ClassInterfacesAreKept g m names = (k : ℕ) (x : Class) → IsClass g k x → IsNamed g x.interface (m.interface k)

-- the root is the interface of the name that the text gives
abbrev pub RootIsKept : Keeps
RootIsKept g m names = IsNamed g g.root m.root

-- each class is printed by its name
abbrev pub ClassNamesAreKept : Keeps
ClassNamesAreKept g m names = (k : ℕ) (x : Class) → IsClass g k x → names.class_name k ≡ x.name

-- ---- children

-- the child at this place of a class, from 0
abbrev pub IsChild : Class → ℕ → Child → Type 0
IsChild x c child = slice_get x.children c ≡ Some child

-- each class has as many children as it declares
abbrev pub ChildrenAreCounted : Keeps
ChildrenAreCounted g m names = (k : ℕ) (x : Class) → IsClass g k x → m.child_count k ≡ length x.children

-- the interface of each child is the one of the name that the child gives
abbrev pub ChildInterfacesAreKept : Keeps
ChildInterfacesAreKept g m names =
    (k : ℕ) (x : Class) → IsClass g k x → (c : ℕ) (child : Child) → IsChild x c child
    → IsNamed g child.interface (m.child_interface k c)

-- each child is a list of kids where it is declared so, and else a single one
abbrev pub ChildListsAreKept : Keeps
ChildListsAreKept g m names =
    (k : ℕ) (x : Class) → IsClass g k x → (c : ℕ) (child : Child) → IsChild x c child → m.is_list k c ≡ child.many
