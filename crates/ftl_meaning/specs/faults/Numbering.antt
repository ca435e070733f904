-- The numbers that names stand for: interfaces, classes, children and attributes, each in the order of the text, from
-- 0.
use Rattle.std.specs.Prelude.{ℕ, suc, ◌+◌, Bool, false, List, [], ◌∷◌, ◌++◌, length, map, take, flat_map}
use Rattle.std.specs.Prelude.{slice_index_or, Option}
use Rattle.std.specs.List.{find, list_any, position_or_len}
use Rattle.std.specs.Str.{bytes_eq}
use Rattle.ftl_grammar.specs.syntax.Trees.{NameText}
use Rattle.ftl_grammar.specs.syntax.Trees as trees
use Rattle.ftl_grammar.specs.declared.syntax.rules.AttrDecl.{AttrDecl}
use Rattle.ftl_grammar.specs.declared.syntax.rules.Interface.{Interface}
use Rattle.ftl_grammar.specs.declared.syntax.rules.Child.{Child}
use Rattle.ftl_grammar.specs.declared.syntax.rules.Class.{Class}
use Rattle.ftl_grammar.specs.declared.syntax.rules.Grammar.{Grammar}

-- entries with their numbers, from this one on
abbrev pub numbered : {X : Type 0} → ℕ → List X → List (ℕ × X)
numbered n [] = []
numbered n (x ∷ xs) = (n, x) ∷ numbered (suc n) xs

-- whether a name is one of these
abbrev pub is_among : List NameText → NameText → Bool
is_among names name = list_any (bytes_eq name) names

-- ---- interfaces and classes

-- the names of the interfaces
abbrev pub interface_names : Grammar → List NameText
interface_names g = map (λ x. x.name) g.interfaces

-- the names of the classes
abbrev pub class_names : Grammar → List NameText
class_names g = map (λ x. x.name) g.classes

-- the number of the interface of this name, or how many there are where there is none
abbrev pub interface_number : Grammar → NameText → ℕ
interface_number g name = position_or_len (bytes_eq name) (interface_names g)

-- the interface of this number; past the end one without attributes
abbrev pub interface_at : Grammar → ℕ → Interface
interface_at g i = slice_index_or g.interfaces i (trees.interface [] [] [])

-- the class of this number; past the end one without anything
abbrev pub class_at : Grammar → ℕ → Class
class_at g k = slice_index_or g.classes k (trees.class [] [] [] [] [])

-- the interface of a class
abbrev pub interface_of : Grammar → (class : ℕ) → ℕ
interface_of g k = interface_number g (class_at g k).interface

-- the children of a class
abbrev pub children_of : Grammar → (class : ℕ) → List (ℕ × Child)
children_of g k = numbered 0 (class_at g k).children

-- the child of this number; past the end one without a name
abbrev pub child_at : Grammar → (class child : ℕ) → Child
child_at g k c = slice_index_or (class_at g k).children c (trees.child [] [] false)

-- ---- attributes: interface by interface, and then class by class

-- how many attributes these interfaces have
abbrev pub shared_count : List Interface → ℕ
shared_count xs = length (flat_map (λ x. x.attrs) xs)

-- how many attributes of their own these classes have
abbrev pub own_count : List Class → ℕ
own_count xs = length (flat_map (λ x. x.attrs) xs)

-- the attributes of an interface
abbrev pub shared_attributes : Grammar → (interface : ℕ) → List (ℕ × AttrDecl)
shared_attributes g i = numbered (shared_count (take i g.interfaces)) (interface_at g i).attrs

-- a class's own attributes
abbrev pub own_attributes : Grammar → (class : ℕ) → List (ℕ × AttrDecl)
own_attributes g k =
    numbered (shared_count g.interfaces + own_count (take k g.classes)) (class_at g k).attrs

-- the attributes of a class: its interface's, then its own
abbrev pub class_attributes : Grammar → (class : ℕ) → List (ℕ × AttrDecl)
class_attributes g k = shared_attributes g (interface_of g k) ++ own_attributes g k

-- the attributes of a child's interface
abbrev pub child_attributes : Grammar → Child → List (ℕ × AttrDecl)
child_attributes g c = shared_attributes g (interface_number g c.interface)

-- ---- look-ups by name

-- the first attribute of this name, with its number
abbrev pub find_attribute : NameText → List (ℕ × AttrDecl) → Option (ℕ × AttrDecl)
find_attribute name = find (λ a. bytes_eq name a.1.name)

-- the child of a class of this name, with its number
abbrev pub find_child : Grammar → (class : ℕ) → NameText → Option (ℕ × Child)
find_child g k name = find (λ c. bytes_eq name c.1.name) (children_of g k)
