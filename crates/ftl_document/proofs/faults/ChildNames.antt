-- In a grammar without a fault the name of each child stands for that child.
use Rattle.std.proofs.Common.{◌≡◌, ℕ, zero, suc, ◌+◌, ◌<◌, true, false, cond, if◌then◌else◌, refl, sym, ◌∙◌, ap, ap₂, subst, ⊎_elim, arith, List, [], ◌∷◌, ◌++◌, length, get_or, map, filter, Contains, Some, None}
use Rattle.std.specs.List.{find}
use Rattle.std.specs.Str.{bytes_eq}
use Rattle.std.proofs.lemmas.List.Elements.{Contains-get_or}
use Rattle.ftl_model.specs.lists.Lists.{AreDistinct}
use Rattle.ftl_model.proofs.lists.Elements.{distinct_apart, distinct_left, distinct_right, here_in, in_cases, in_filter, later_in, nothing_in}
use Rattle.ftl_model.proofs.lists.Rising.{in_map, map_has}
use Rattle.ftl_grammar.specs.syntax.Trees as trees
use Rattle.ftl_grammar.specs.syntax.Trees.{NameText}
use Rattle.ftl_grammar.specs.declared.syntax.rules.AttrDecl.{AttrDecl}
use Rattle.ftl_grammar.specs.declared.syntax.rules.Child.{Child}
use Rattle.ftl_grammar.specs.declared.syntax.rules.Grammar.{Grammar}
use Rattle.ftl_meaning.specs.faults.Checked.{field_by, field_named, is_input}
use Rattle.ftl_meaning.specs.faults.FirstFault.{first_fault}
use Rattle.ftl_meaning.specs.faults.Numbering.{child_at, children_of, class_at, class_attributes, class_names, find_attribute, find_child, interface_names, numbered}
use Rattle.ftl_meaning.specs.declared.faults.info.Field.TheVariants as field
use Rattle.ftl_document.specs.faults.FirstFault.{input_names}
use Rattle.ftl_meaning.proofs.names.NameFaults.{no_name_fault, once, once_in_class}
use Rattle.ftl_meaning.proofs.names.Names.{name_itself, names_differ}

-- ---- what names stand for

-- the child of this name is found, where no two have one name
find_named : (xs : List Child) (start i : ℕ) (d : Child) → AreDistinct (map (λ c. c.name) xs) → i < length xs
    → find (λ c. bytes_eq (get_or xs i d).name c.1.name) (numbered start xs) ≡ Some (start + i, get_or xs i d)
find_named [] start i d distinct below = absurd (let z : ⊥ = omega (arith, below) in z)
find_named (x ∷ xs) start zero d distinct below =
    ap (λ b. cond b (Some (start, x)) (find (λ c. bytes_eq x.name c.1.name) (numbered (suc start) xs))) (name_itself x.name)
    ∙ ap (λ m. Some (m, x)) (let z : start ≡ start + 0 = omega arith in z)
find_named (x ∷ xs) start (suc i) d distinct below =
    let within : i < length xs = omega (arith, below) in
    ap (λ b. cond b (Some (start, x)) (find (λ c. bytes_eq (get_or xs i d).name c.1.name) (numbered (suc start) xs)))
    (names_differ (get_or xs i d).name x.name
    (λ same. distinct.0
    (subst (Contains (map (λ (c : Child). c.name) xs)) same (map_has (λ (c : Child). c.name) xs (get_or xs i d) (Contains-get_or xs i d within)))))
    ∙ find_named xs (suc start) i d distinct.1 within
    ∙ ap (λ m. Some (m, get_or xs i d)) (let z : suc start + i ≡ start + suc i = omega arith in z)

-- no attribute is found by a name that none has
none_named : (name : NameText) (xs : List (ℕ × AttrDecl)) → (Contains (map (λ a. a.1.name) xs) name → ⊥)
    → find_attribute name xs ≡ None
none_named name [] apart = refl
none_named name (x ∷ xs) apart =
    ap (λ b. cond b (Some x) (find_attribute name xs))
    (names_differ name x.1.name
    (λ same. apart
    (subst (Contains (x.1.name ∷ map (λ a. a.1.name) xs)) (sym same) (here_in x.1.name (map (λ a. a.1.name) xs)))))
    ∙ none_named name xs (λ later. apart (later_in x.1.name name (map (λ a. a.1.name) xs) later))

-- the names of numbered children
pub names_of_numbered : (n : ℕ) (xs : List Child) → map (λ c. c.1.name) (numbered n xs) ≡ map (λ c. c.name) xs
names_of_numbered n [] = refl
names_of_numbered n (x ∷ xs) = ap (λ ns. x.name ∷ ns) (names_of_numbered (suc n) xs)

-- the names of classes differ
pub class_names_once : (g : Grammar) → first_fault g ≡ None → AreDistinct (class_names g)
class_names_once g none =
    distinct_right (interface_names g) (class_names g)
    (once (interface_names g ++ class_names g) (no_name_fault g none).declared_once)

-- the names of a class's attributes
abbrev pub attribute_names_of : Grammar → ℕ → List NameText
attribute_names_of g k = map (λ a. a.1.name) (class_attributes g k)

-- the names of its children
abbrev pub child_names_of : Grammar → ℕ → List NameText
child_names_of g k = map (λ c. c.1.name) (children_of g k)

-- all names of a class differ
pub class_names_differ : (g : Grammar) → first_fault g ≡ None → (k : ℕ) → k < length g.classes
    → AreDistinct (attribute_names_of g k ++ child_names_of g k)
class_names_differ g none k known =
    once (attribute_names_of g k ++ child_names_of g k) (once_in_class g none k known)

-- the name of each child stands for the child
pub child_found : (g : Grammar) → first_fault g ≡ None → (k c : ℕ) → k < length g.classes
    → c < length (class_at g k).children → field_named g k (child_at g k c).name ≡ Some (field.Child c)
child_found g none k c known below =
    ap₂ field_by
    (none_named (child_at g k c).name (class_attributes g k)
    (λ there. distinct_apart (attribute_names_of g k) (child_names_of g k) differ (child_at g k c).name there
    (subst (λ ns. Contains ns (child_at g k c).name) (sym (names_of_numbered 0 xs))
    (map_has (λ (c : Child). c.name) xs (child_at g k c) (Contains-get_or xs c (trees.child [] [] false) below)))))
    (find_named xs 0 c (trees.child [] [] false)
    (subst AreDistinct (names_of_numbered 0 xs) (distinct_right (attribute_names_of g k) (child_names_of g k) differ)) below)
    ∙ ap (λ m. Some (field.Child m)) (let z : 0 + c ≡ c = omega arith in z)
  where
    xs : List Child
    xs = (class_at g k).children

    differ : AreDistinct (attribute_names_of g k ++ child_names_of g k)
    differ = class_names_differ g none k known

-- the first attribute of a name that no other has
attribute_found : (xs : List (ℕ × AttrDecl)) (a : ℕ × AttrDecl) → AreDistinct (map (λ x. x.1.name) xs) → Contains xs a
    → find_attribute a.1.name xs ≡ Some a
attribute_found [] a differ there = absurd (nothing_in a there)
attribute_found (x ∷ xs) a differ there =
    ⊎_elim
    (λ same.
    ap (λ b. cond b (Some x) (find_attribute a.1.name xs))
    (subst (λ (y : ℕ × AttrDecl). bytes_eq a.1.name y.1.name ≡ true) (sym same) (name_itself a.1.name))
    ∙ ap (λ (y : ℕ × AttrDecl). Some y) same)
    (λ later.
    ap (λ b. cond b (Some x) (find_attribute a.1.name xs))
    (names_differ a.1.name x.1.name
    (λ same. differ.0 (subst (Contains (map (λ (y : ℕ × AttrDecl). y.1.name) xs)) same (map_has (λ (y : ℕ × AttrDecl). y.1.name) xs a later))))
    ∙ attribute_found xs a differ.1 later)
    (in_cases x a xs there)

-- an input's name stands for an input
pub input_stands : (g : Grammar) → first_fault g ≡ None → (k : ℕ) → k < length g.classes → (name : NameText)
    → Contains (input_names g k) name
    → (a : ℕ) × (field_named g k name ≡ Some (field.Input a))
input_stands g none k known name there =
    let m = in_map (λ (x : ℕ × AttrDecl). x.1.name) (filter (λ (x : ℕ × AttrDecl). is_input x.1.kind) (class_attributes g k)) name there in
    let f = in_filter (λ (x : ℕ × AttrDecl). is_input x.1.kind) (class_attributes g k) m.from m.there in (
      m.from.0,
      ap (field_named g k) (sym m.is)
          ∙ ap (λ a. field_by a (find_child g k m.from.1.name))
          (attribute_found (class_attributes g k) m.from
          (distinct_left (attribute_names_of g k) (child_names_of g k) (class_names_differ g none k known)) f.0)
          ∙ ap (λ b. if b then Some (field.Input m.from.0) else None) f.1,
    )
