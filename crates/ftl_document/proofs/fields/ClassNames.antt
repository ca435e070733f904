-- The names of the inputs and children of a class, and that they are few.
use Rattle.std.proofs.Common.{◌≡◌, ℕ, suc, ◌+◌, ◌<◌, ◌≤◌, Bool, true, false, cond, refl, ◌∙◌, ap, ap₂, ⊎_elim, arith, List, [], ◌∷◌, ◌++◌, length, map, filter, take, length-append, None}
use Rattle.std.proofs.lemmas.Bool.{cases_lt}
use Rattle.std.proofs.lemmas.List.{length-map, map-append, get_or_past}
use Rattle.ftl_grammar.specs.syntax.Trees as trees
use Rattle.ftl_grammar.specs.syntax.Trees.{NameText}
use Rattle.ftl_grammar.specs.declared.syntax.rules.AttrDecl.{AttrDecl}
use Rattle.ftl_grammar.specs.declared.syntax.rules.Interface.{Interface}
use Rattle.ftl_grammar.specs.declared.syntax.rules.Child.{Child}
use Rattle.ftl_grammar.specs.declared.syntax.rules.Grammar.{Grammar}
use Rattle.ftl_meaning.specs.faults.Checked.{is_input}
use Rattle.ftl_meaning.specs.faults.FirstFault.{first_fault}
use Rattle.ftl_meaning.specs.faults.Numbering.{class_at, interface_at, interface_of, numbered, own_attributes, own_count, shared_attributes, shared_count}
use Rattle.ftl_meaning.proofs.lawful.WithinLimits.{within_limits}
use Rattle.ftl_document.specs.faults.FirstFault.{input_names, needed_names}
use Rattle.ftl_document.proofs.faults.ChildNames.{names_of_numbered}
use Rattle.ftl_document.specs.fields.OwnFields.{names_of_inputs}

-- a test that is pushed through
push_names : (b : Bool) (x : ℕ × AttrDecl) (xs : List (ℕ × AttrDecl)) (ys : List AttrDecl)
    → map (λ a. a.1.name) xs ≡ map (λ a. a.name) ys
    → map (λ a. a.1.name) (cond b (x ∷ xs) xs) ≡ map (λ a. a.name) (cond b (x.1 ∷ ys) ys)
push_names true x xs ys e = ap (λ (ns : List NameText). x.1.name ∷ ns) e
push_names false x xs ys e = e

-- the numbers of attributes play no part
of_numbered : (n : ℕ) (xs : List AttrDecl)
    → map (λ (a : ℕ × AttrDecl). a.1.name) (filter (λ a. is_input a.1.kind) (numbered n xs)) ≡ names_of_inputs xs
of_numbered n [] = refl
of_numbered n (x ∷ xs) =
    push_names (is_input x.kind) (n, x) (filter (λ a. is_input a.1.kind) (numbered (suc n) xs))
    (filter (λ a. is_input a.kind) xs) (of_numbered (suc n) xs)

filter_append : {X : Type 0} (p : X → Bool) (xs ys : List X) → filter p (xs ++ ys) ≡ filter p xs ++ filter p ys
filter_append p [] ys = refl
filter_append p (x ∷ xs) ys = by_test (p x) (filter_append p xs ys)
  where
    by_test : (b : Bool) → filter p (xs ++ ys) ≡ filter p xs ++ filter p ys
        → cond b (x ∷ filter p (xs ++ ys)) (filter p (xs ++ ys)) ≡ cond b (x ∷ filter p xs) (filter p xs) ++ filter p ys
    by_test true e = ap (λ zs. x ∷ zs) e
    by_test false e = e

-- the inputs of a class
pub inputs_are : (g : Grammar) (k : ℕ)
    → input_names g k
    ≡ names_of_inputs (interface_at g (interface_of g k)).attrs ++ names_of_inputs (class_at g k).attrs
inputs_are g k =
    ap (map (λ (a : ℕ × AttrDecl). a.1.name))
    (filter_append (λ (a : ℕ × AttrDecl). is_input a.1.kind) (shared_attributes g (interface_of g k)) (own_attributes g k))
    ∙ map-append (λ (a : ℕ × AttrDecl). a.1.name)
    (filter (λ (a : ℕ × AttrDecl). is_input a.1.kind) (shared_attributes g (interface_of g k)))
    (filter (λ (a : ℕ × AttrDecl). is_input a.1.kind) (own_attributes g k))
    ∙ ap₂ (λ (xs ys : List NameText). xs ++ ys) (of_numbered _ (interface_at g (interface_of g k)).attrs)
    (of_numbered _ (class_at g k).attrs)

-- and its children
pub needed_are : (g : Grammar) (k : ℕ)
    → needed_names g k ≡ input_names g k ++ map (λ c. c.name) (class_at g k).children
needed_are g k = ap (λ (ns : List NameText). input_names g k ++ ns) (names_of_numbered 0 (class_at g k).children)

filter_less : {X : Type 0} (p : X → Bool) (xs : List X) → length (filter p xs) ≤ length xs
filter_less p [] = omega arith
filter_less p (x ∷ xs) = by_test (p x) (filter_less p xs)
  where
    by_test : (b : Bool) → length (filter p xs) ≤ length xs → length (cond b (x ∷ filter p xs) (filter p xs)) ≤ suc (length xs)
    by_test true e = omega (arith, e)
    by_test false e = omega (arith, e)

few_inputs : (xs : List AttrDecl) → length (names_of_inputs xs) ≤ length xs
few_inputs xs =
    let less = filter_less (λ (a : AttrDecl). is_input a.kind) xs in
    let same = length-map (filter (λ (a : AttrDecl). is_input a.kind) xs) (λ (a : AttrDecl). a.name) in
    omega (arith, less, same)

numbered_length : {X : Type 0} (n : ℕ) (xs : List X) → length (numbered n xs) ≡ length xs
numbered_length n [] = refl
numbered_length n (x ∷ xs) = ap suc (numbered_length (suc n) xs)

-- a class has at most 144 names of inputs and children
pub few_names : (g : Grammar) → first_fault g ≡ None → (k : ℕ) → k < length g.classes
    → length (needed_names g k) ≤ 144
few_names g none k known =
    let limits = within_limits g none 0 in
    let own = limits.private k known in
    let own_same = length-map (own_attributes g k) (λ (a : ℕ × AttrDecl). a.0) in
    let counted = numbered_length (shared_count g.interfaces + own_count (take k g.classes)) (class_at g k).attrs in
    let kids = limits.children k known in
    let all = ap length (inputs_are g k) in
    let both = length-append (names_of_inputs (interface_at g (interface_of g k)).attrs) (names_of_inputs (class_at g k).attrs) in
    let one = few_inputs (interface_at g (interface_of g k)).attrs in
    let two = few_inputs (class_at g k).attrs in
    let named = ap length (needed_are g k) in
    let parts = length-append (input_names g k) (map (λ (c : Child). c.name) (class_at g k).children) in
    let children = length-map (class_at g k).children (λ (c : Child). c.name) in
    let shared = few_shared in
    omega (arith, own, own_same, counted, kids, all, both, one, two, named, parts, children, shared)
  where
    few_shared : length (interface_at g (interface_of g k)).attrs ≤ 64
    few_shared =
        ⊎_elim
        (λ there.
        let few = (within_limits g none 0).shared (interface_of g k) there in
        let same = length-map (shared_attributes g (interface_of g k)) (λ (a : ℕ × AttrDecl). a.0) in
        let count = numbered_length (shared_count (take (interface_of g k) g.interfaces)) (interface_at g (interface_of g k)).attrs in
        omega (arith, few, same, count))
        (λ past.
        let nothing = ap (λ (x : Interface). length x.attrs)
        (get_or_past g.interfaces (interface_of g k) (trees.interface [] [] []) past) in
        omega (arith, nothing))
        (cases_lt (interface_of g k) (length g.interfaces))

-- and so at most 144 inputs
pub few_input_names : (g : Grammar) → first_fault g ≡ None → (k : ℕ) → k < length g.classes
    → length (input_names g k) ≤ 144
few_input_names g none k known =
    let few = few_names g none k known in
    let named = ap length (needed_are g k) in
    let parts = length-append (input_names g k) (map (λ (c : Child). c.name) (class_at g k).children) in
    omega (arith, few, named, parts)

-- an interface past the end has no inputs
pub none_past : (g : Grammar) (i : ℕ) → length g.interfaces ≤ i → names_of_inputs (interface_at g i).attrs ≡ []
none_past g i past =
    ap (λ (x : Interface). names_of_inputs x.attrs) (get_or_past g.interfaces i (trees.interface [] [] []) past)
