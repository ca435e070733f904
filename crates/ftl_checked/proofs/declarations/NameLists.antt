-- The conditions on names, list by list.
use Rattle.std.proofs.Common.{◌≡◌, ℕ, zero, suc, ◌+◌, ◌<◌, Bool, true, false, not, nat_lt, drop, List, [], ◌∷◌, ◌++◌, length, map, get_or, Option, Some, None, Result, Ok, Err, refl, sym, ◌∙◌, ap, ap₂, arith}
use Rattle.std.specs.Option.{option_map}
use Rattle.std.specs.Result.{IsErrAnd}
use Rattle.std.specs.Str.{bytes_eq}
use Rattle.std.proofs.lemmas.Bool.Decides.{nat_tests}
use Rattle.std.proofs.lemmas.List.{append-nil, length-map, map-append}
use Rattle.ftl_grammar.specs.syntax.Trees.{NameText}
use Rattle.ftl_grammar.specs.syntax.Trees as trees
use Rattle.ftl_grammar.specs.declared.syntax.rules.AttrDecl.{AttrDecl}
use Rattle.ftl_grammar.specs.declared.syntax.rules.Child.{Child}
use Rattle.ftl_grammar.specs.declared.syntax.rules.Class.{Class}
use Rattle.ftl_grammar.specs.declared.syntax.rules.Grammar.{Grammar}
use Rattle.ftl_grammar.specs.declared.syntax.rules.Interface.{Interface}
use Rattle.ftl_meaning.specs.declared.faults.fault.GrammarFault.{GrammarFault}
use Rattle.ftl_meaning.specs.declared.faults.fault.GrammarFault.TheVariants as fault
use Rattle.ftl_meaning.specs.faults.FirstFault.{attribute_names, fault_if, first_of, first_there, interfaces_named, name_fault, root_inherits, second_name, twice_among, twice_in_class, twice_in_interface, unknown_among}
use Rattle.ftl_checked.specs.declarations.NameFaults.{class_once_fault, classes_fault, interfaces_fault, kid_interface_fault, once_fault, shown_fault, unknown_fault}
use Rattle.ftl_meaning.specs.faults.Numbering.{children_of, class_at, class_attributes, class_names, interface_at, interface_names, interface_number, interface_of, is_among, numbered, own_attributes, shared_attributes}
use Rattle.ftl_meaning.proofs.faults.FirstLists.{of_same, there_cons}
use Rattle.ftl_meaning.proofs.faults.FirstNumbered.{placed_first_passes, placed_first_stops, numbered_first_ends}
use Rattle.ftl_checked.proofs.lookup.Seconds.{any_place}
use Rattle.ftl_meaning.proofs.faults.SecondNames.{second_in_first, second_in_then}

-- whether a name is an interface's, by its number
pub known_is : (g : Grammar) (name : NameText)
    → is_among (interface_names g) name ≡ nat_lt (interface_number g name) (length g.interfaces)
known_is g name =
    any_place (bytes_eq name) (interface_names g)
    ∙ ap (nat_lt (interface_number g name)) (length-map g.interfaces (λ (x : Interface). x.name))

-- the first of entries that are made of others
of_made : {X Y : Type 0} (f : Y → Option GrammarFault) (h : X → Y) (xs : List X) → first_of f (map h xs) ≡ first_of (λ x. f (h x)) xs
of_made f h [] = refl
of_made f h (x ∷ xs) =
    there_cons (f (h x)) (map f (map h xs)) ∙ ap (λ r. first_there (f (h x) ∷ r ∷ [])) (of_made f h xs)
    ∙ sym (there_cons (f (h x)) (map (λ x. f (h x)) xs))

-- the interfaces of a class
named_is : (g : Grammar) (x : Class) → unknown_among (interface_names g) (interfaces_named x) ≡ interfaces_fault g x
unfolding interfaces_fault kid_interface_fault unknown_fault
named_is g x =
    let F : NameText → Option GrammarFault = λ name. fault_if (not (is_among (interface_names g) name)) (fault.UnknownName name) in
    there_cons (F x.interface) (map F (map (λ (c : Child). c.interface) x.children))
    ∙ ap (λ r. first_there (F x.interface ∷ r ∷ [])) (of_made F (λ (c : Child). c.interface) x.children)

-- the shown names of an interface
shown_is : (x : Interface) → unknown_among (attribute_names x.attrs) x.shown ≡ shown_fault x
unfolding shown_fault unknown_fault
shown_is x = refl

once_is : (x : Interface) → twice_in_interface x ≡ once_fault x
unfolding once_fault
once_is x = refl

class_once_is : (g : Grammar) (k : ℕ × Class) → twice_in_class g k.0 ≡ class_once_fault g k.0
unfolding class_once_fault
class_once_is g k = refl

-- all conditions on names, as they are looked at
pub name_fault_is : (g : Grammar) → name_fault g ≡ first_there (
    twice_among (interface_names g ++ class_names g)
    ∷ fault_if (not (is_among (interface_names g) g.root)) (fault.RootMissing g.root)
    ∷ first_of shown_fault g.interfaces
    ∷ first_of (interfaces_fault g) g.classes
    ∷ first_of once_fault g.interfaces
    ∷ classes_fault g 0 g.classes
    ∷ fault_if (root_inherits g) (fault.RootInherits g.root) ∷ [])
unfolding classes_fault
name_fault_is g =
    let a = twice_among (interface_names g ++ class_names g) in
    let b = fault_if (not (is_among (interface_names g) g.root)) (fault.RootMissing g.root) in
    let c = of_same (λ x. unknown_among (attribute_names x.attrs) x.shown) shown_fault shown_is g.interfaces in
    let d = of_same (λ x. unknown_among (interface_names g) (interfaces_named x)) (interfaces_fault g) (named_is g) g.classes in
    let e = of_same twice_in_interface once_fault once_is g.interfaces in
    let f = of_same (λ k. twice_in_class g k.0) (λ k. class_once_fault g k.0) (class_once_is g) (numbered 0 g.classes) in
    let r = fault_if (root_inherits g) (fault.RootInherits g.root) in
    ap (λ o. first_there (a ∷ b ∷ o ∷ first_of (λ x. unknown_among (interface_names g) (interfaces_named x)) g.classes
    ∷ first_of twice_in_interface g.interfaces ∷ first_of (λ k. twice_in_class g k.0) (numbered 0 g.classes) ∷ r ∷ [])) c
    ∙ ap (λ o. first_there (a ∷ b ∷ first_of shown_fault g.interfaces ∷ o
    ∷ first_of twice_in_interface g.interfaces ∷ first_of (λ k. twice_in_class g k.0) (numbered 0 g.classes) ∷ r ∷ [])) d
    ∙ ap (λ o. first_there (a ∷ b ∷ first_of shown_fault g.interfaces ∷ first_of (interfaces_fault g) g.classes
    ∷ o ∷ first_of (λ k. twice_in_class g k.0) (numbered 0 g.classes) ∷ r ∷ [])) e
    ∙ ap (λ o. first_there (a ∷ b ∷ first_of shown_fault g.interfaces ∷ first_of (interfaces_fault g) g.classes
    ∷ first_of once_fault g.interfaces ∷ o ∷ r ∷ [])) f

-- ---- one class

-- where no entry has a fault, none has
pub none_at : {X : Type 0} (f : X → Option GrammarFault) (xs : List X) (i : ℕ) (d : X) → first_of f xs ≡ None → i < length xs
    → f (get_or xs i d) ≡ None
none_at f [] i d none within = absurd (omega arith)
none_at f (x ∷ xs) i d none within = by_head (f x) refl none i within (λ rest j w. none_at f xs j d rest w)
  where
    by_head : (o : Option GrammarFault) → f x ≡ o → first_there (o ∷ map f xs) ≡ None → (i : ℕ) → i < length (x ∷ xs)
        → (first_of f xs ≡ None → (j : ℕ) → j < length xs → f (get_or xs j d) ≡ None) → f (get_or (x ∷ xs) i d) ≡ None
    by_head (Some e) is none i within below = absurd (cc none)
    by_head None is none zero within below = is
    by_head None is none (suc i) within below = below none i (omega arith)

-- a first that is none
head_none : (a b : Option GrammarFault) → first_there (a ∷ b ∷ []) ≡ None → a ≡ None
head_none None b e = refl
head_none (Some x) b e = absurd (cc e)

-- no fault, so no cause
no_cause : (b : Bool) (x : GrammarFault) → fault_if (not b) x ≡ None → b ≡ true
no_cause true x e = refl
no_cause false x e = absurd (cc e)

-- the interface of a class is one
pub class_interface_within : (g : Grammar) (k : ℕ) → first_of (interfaces_fault g) g.classes ≡ None → k < length g.classes
    → interface_of g k < length g.interfaces
unfolding interfaces_fault unknown_fault
class_interface_within g k none within =
    let here : interfaces_fault g (class_at g k) ≡ None = none_at (interfaces_fault g) g.classes k (trees.class [] [] [] [] []) none within in
    let head = head_none (unknown_fault (interface_names g) (class_at g k).interface) (first_of (kid_interface_fault g) (class_at g k).children) here in
    let known : nat_lt (interface_of g k) (length g.interfaces) ≡ true =
    sym (known_is g (class_at g k).interface)
    ∙ no_cause (is_among (interface_names g) (class_at g k).interface) (fault.UnknownName (class_at g k).interface) head in
    grind (arith, nat_tests)

-- nothing twice
none_twice : (o : Option NameText) → option_map fault.TwiceNamed o ≡ None → o ≡ None
none_twice None e = refl
none_twice (Some n) e = absurd (cc e)

-- the attributes of an interface have their names once
pub shared_once : (g : Grammar) (i : ℕ) → first_of once_fault g.interfaces ≡ None → i < length g.interfaces
    → second_name [] (attribute_names (interface_at g i).attrs) ≡ None
unfolding once_fault
shared_once g i none within =
    let here : once_fault (interface_at g i) ≡ None = none_at once_fault g.interfaces i (trees.interface [] [] []) none within in
    none_twice (second_name [] (attribute_names (interface_at g i).attrs))
    (head_none (twice_among (attribute_names (interface_at g i).attrs)) (twice_among (interface_at g i).shown) here)

-- numbers gone
made_of_numbered : {X Y : Type 0} (f : X → Y) (s : ℕ) (xs : List X) → map (λ a. f a.1) (numbered s xs) ≡ map f xs
made_of_numbered f s [] = refl
made_of_numbered f s (x ∷ xs) = ap (λ ys. f x ∷ ys) (made_of_numbered f (suc s) xs)

-- the names of a class
class_names_are : (g : Grammar) (k : ℕ)
    → map (λ a. a.1.name) (class_attributes g k) ++ map (λ c. c.1.name) (children_of g k)
    ≡ (attribute_names (interface_at g (interface_of g k)).attrs ++ attribute_names (class_at g k).attrs)
    ++ map (λ c. c.name) (class_at g k).children
class_names_are g k =
    let N : ℕ × AttrDecl → NameText = λ a. a.1.name in
    let attrs : map N (class_attributes g k) ≡ attribute_names (interface_at g (interface_of g k)).attrs ++ attribute_names (class_at g k).attrs =
    map-append N (shared_attributes g (interface_of g k)) (own_attributes g k)
    ∙ ap₂ (λ a b. a ++ b) (made_of_numbered (λ (a : AttrDecl). a.name) _ (interface_at g (interface_of g k)).attrs)
    (made_of_numbered (λ (a : AttrDecl). a.name) _ (class_at g k).attrs) in
    ap₂ (λ a b. a ++ b) attrs (made_of_numbered (λ (c : Child). c.name) 0 (class_at g k).children)

pub class_once_by : (g : Grammar) (k : ℕ) → class_once_fault g k
    ≡ twice_among ((attribute_names (interface_at g (interface_of g k)).attrs ++ attribute_names (class_at g k).attrs)
    ++ map (λ c. c.name) (class_at g k).children)
unfolding class_once_fault
class_once_by g k = ap twice_among (class_names_are g k)

-- names after others, list by list
pub fields_are : (s own kids none : List NameText) → none ≡ [] → second_name [] s ≡ None
    → twice_among ((s ++ own) ++ kids)
    ≡ first_there (option_map fault.TwiceNamed (second_name (s ++ none) own) ∷ option_map fault.TwiceNamed (second_name (s ++ own) kids) ∷ [])
fields_are s own kids none empty once =
    let own_is : second_name [] (s ++ own) ≡ second_name s own = second_in_then [] s own once in
    by_own (second_name s own) own_is
    ∙ ap (λ ns. first_there (option_map fault.TwiceNamed (second_name ns own) ∷ option_map fault.TwiceNamed (second_name (s ++ own) kids) ∷ []))
    (sym (ap (λ n. s ++ n) empty ∙ append-nil s))
  where
    alone : (o : Option NameText) → option_map fault.TwiceNamed o ≡ first_there (option_map fault.TwiceNamed o ∷ [])
    alone None = refl
    alone (Some n) = refl

    by_own : (o : Option NameText) → second_name [] (s ++ own) ≡ o → twice_among ((s ++ own) ++ kids)
        ≡ first_there (option_map fault.TwiceNamed o ∷ option_map fault.TwiceNamed (second_name (s ++ own) kids) ∷ [])
    by_own (Some n) e = ap (option_map fault.TwiceNamed) (second_in_first [] (s ++ own) kids n e)
    by_own None e =
        ap (option_map fault.TwiceNamed) (second_in_then [] (s ++ own) kids e)
        ∙ alone (second_name (s ++ own) kids)

-- one class more
pub once_passes : (g : Grammar) (i : ℕ) → i < length g.classes → class_once_fault g i ≡ None
    → classes_fault g i (drop i g.classes) ≡ classes_fault g (i + 1) (drop (i + 1) g.classes)
unfolding classes_fault
once_passes g i within here =
    placed_first_passes (λ k. class_once_fault g k.0) g.classes i (trees.class [] [] [] [] []) within here

-- one with a fault
pub once_stops : (g : Grammar) (i : ℕ) (e : GrammarFault) → i < length g.classes → class_once_fault g i ≡ Some e
    → classes_fault g i (drop i g.classes) ≡ Some e
unfolding classes_fault
once_stops g i e within here =
    placed_first_stops (λ k. class_once_fault g k.0) g.classes i (trees.class [] [] [] [] []) e within here

-- none are left
pub once_ends : (g : Grammar) (n : ℕ) → classes_fault g n (drop (length g.classes) g.classes) ≡ None
unfolding classes_fault
once_ends g n = numbered_first_ends (λ k. class_once_fault g k.0) g.classes n

-- a fault that is handed up
pub err_is : (r : Result (Unit {0}) GrammarFault) (x : GrammarFault) → IsErrAnd r (λ e. e ≡ x) → r ≡ Err x
err_is (Ok u) x h = absurd h
err_is (Err e) x h = ap (λ y. Err y) h

-- the steps of a loop over classes
pub ruleset once_steps = (once_passes, once_stops, once_ends)
