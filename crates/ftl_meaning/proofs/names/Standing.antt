-- Classes, their children and the root.
use Rattle.std.proofs.Common.{◌≡◌, ℕ, false, sym, ap, subst, [], length, Some}
use Rattle.std.specs.List.{slice_get}
use Rattle.std.proofs.lemmas.Option.{get_or_from_slice_get, slice_get_within}
use Rattle.ftl_grammar.specs.syntax.Trees as trees
use Rattle.ftl_grammar.specs.declared.syntax.rules.Child.{Child}
use Rattle.ftl_grammar.specs.declared.syntax.rules.Class.{Class}
use Rattle.ftl_grammar.specs.declared.syntax.rules.Grammar.{Grammar}
use Rattle.ftl_meaning.specs.faults.Numbering.{child_at, class_at, interface_number, interface_of}
use Rattle.ftl_meaning.proofs.lawful.RequiredRules.{child_known, interface_known, root_known}
use Rattle.ftl_meaning.specs.names.Classes.{ChildInterfacesAreKept, ChildListsAreKept, ChildrenAreCounted, ClassInterfacesAreKept, ClassNamesAreKept, IsChild, RootIsKept}
use Rattle.ftl_meaning.specs.names.Places.{IsClass, IsNamed, OfMeanings, OfRightMeanings}
use Rattle.ftl_meaning.proofs.names.NoNameFault.{stands_for}

class_is : (g : Grammar) (k : ℕ) (x : Class) → IsClass g k x → class_at g k ≡ x
class_is g k x at = get_or_from_slice_get g.classes k x (trees.class [] [] [] [] []) at

-- a child that a class declares, in the class as it is found by number
declared_there : (g : Grammar) (k : ℕ) (x : Class) (c : ℕ) (child : Child) → IsClass g k x → IsChild x c child
    → slice_get (class_at g k).children c ≡ Some child
declared_there g k x c child at is =
    subst (λ (y : Class). slice_get y.children c ≡ Some child) (sym (class_is g k x at)) is

child_is : (g : Grammar) (k : ℕ) (x : Class) (c : ℕ) (child : Child) → IsClass g k x → IsChild x c child
    → child_at g k c ≡ child
child_is g k x c child at is =
    get_or_from_slice_get (class_at g k).children c child (trees.child [] [] false) (declared_there g k x c child at is)

pub class_interfaces : OfRightMeanings ClassInterfacesAreKept
class_interfaces greatest g none k x at =
    subst (λ (y : Class). IsNamed g y.interface (interface_of g k)) (class_is g k x at)
    (stands_for g none (class_at g k).interface (interface_known g none k (slice_get_within g.classes k x at)))

pub root : OfRightMeanings RootIsKept
root greatest g none = stands_for g none g.root (root_known g none)

pub class_names : OfMeanings ClassNamesAreKept
class_names greatest g k x at = ap (λ (y : Class). y.name) (class_is g k x at)

pub children_counted : OfMeanings ChildrenAreCounted
children_counted greatest g k x at = ap (λ (y : Class). length y.children) (class_is g k x at)

pub child_interfaces : OfRightMeanings ChildInterfacesAreKept
child_interfaces greatest g none k x at c child is =
    subst (λ (y : Child). IsNamed g y.interface (interface_number g (child_at g k c).interface))
    (child_is g k x c child at is)
    (stands_for g none (child_at g k c).interface
    (child_known g none k c (slice_get_within g.classes k x at)
    (slice_get_within (class_at g k).children c child (declared_there g k x c child at is))))

pub child_lists : OfMeanings ChildListsAreKept
child_lists greatest g k x at c child is = ap (λ (y : Child). y.many) (child_is g k x c child at is)
