-- The names of a class's fields by their places, and what comes next of its fields.
use Rattle.std.proofs.Common.{◌≡◌, ℕ, zero, suc, ◌+◌, ◌<◌, ◌≤◌, false, refl, ap, ap₂, ◌∙◌, arith, List, [], ◌∷◌, length, get_or, drop, length-append}
use Rattle.std.proofs.lemmas.List.{get_or-map, length-map, drop_all}
use Rattle.std.proofs.lemmas.List.{get_or_append_left, get_or-append-add}
use Rattle.ftl_grammar.specs.syntax.Trees as trees
use Rattle.ftl_grammar.specs.declared.syntax.rules.Child.{Child}
use Rattle.ftl_grammar.specs.declared.syntax.rules.Grammar.{Grammar}
use Rattle.ftl_meaning.specs.faults.Numbering.{child_at, children_of, class_at, numbered}
use Rattle.ftl_document.specs.faults.FirstFault.{input_names, needed_names}
use Rattle.ftl_document.specs.syntax.Written.{NameText}
use Rattle.ftl_document.proofs.faults.ChildNames.{child_names_of, names_of_numbered}

counted : (n : ℕ) (xs : List Child) → length (numbered n xs) ≡ length xs
counted n [] = refl
counted n (x ∷ xs) = ap suc (counted (suc n) xs)

drop_numbered : (n i : ℕ) (xs : List Child) (d : Child) → i < length xs
    → drop i (numbered n xs) ≡ (n + i, get_or xs i d) ∷ drop (suc i) (numbered n xs)
drop_numbered n i [] d within = absurd (omega (arith, within))
drop_numbered n zero (x ∷ xs) d within =
    ap (λ j. (j, x) ∷ numbered (suc n) xs) (let z : n ≡ n + 0 = omega arith in z)
drop_numbered n (suc i) (x ∷ xs) d within =
    drop_numbered (suc n) i xs d (omega (arith, within))
    ∙ ap (λ j. (j, get_or xs i d) ∷ drop (suc i) (numbered (suc n) xs)) (let z : suc n + i ≡ n + suc i = omega arith in z)

-- the children from one on
pub children_from : (g : Grammar) (k c : ℕ) → c < length (class_at g k).children
    → drop c (children_of g k) ≡ (c, child_at g k c) ∷ drop (c + 1) (children_of g k)
children_from g k c within =
    drop_numbered 0 c (class_at g k).children (trees.child [] [] false) within
    ∙ ap₂ (λ i j. (i, child_at g k c) ∷ drop j (children_of g k)) (let z : 0 + c ≡ c = omega arith in z)
    (let z : suc c ≡ c + 1 = omega arith in z)

pub no_more_children : (g : Grammar) (k c : ℕ) → length (class_at g k).children ≤ c → drop c (children_of g k) ≡ []
no_more_children g k c past = drop_all c (children_of g k) (let same = counted 0 (class_at g k).children in omega (arith, past, same))

names_counted : (g : Grammar) (k : ℕ) → length (child_names_of g k) ≡ length (class_at g k).children
names_counted g k = ap length (names_of_numbered 0 (class_at g k).children) ∙ length-map (class_at g k).children (λ (c : Child). c.name)

-- the place of an input, and its name
pub input_within : (g : Grammar) (k i : ℕ) → i < length (input_names g k) → i < length (needed_names g k)
input_within g k i within = let both = length-append (input_names g k) (child_names_of g k) in omega (arith, within, both)

pub input_name : (g : Grammar) (k i : ℕ) → i < length (input_names g k)
    → get_or (needed_names g k) i [] ≡ get_or (input_names g k) i []
input_name g k i within = get_or_append_left (input_names g k) (child_names_of g k) [] i within

-- those of a child
pub child_within : (g : Grammar) (k c n : ℕ) → n ≡ length (input_names g k) → c < length (class_at g k).children
    → n + c < length (needed_names g k)
child_within g k c n same within =
    let both = length-append (input_names g k) (child_names_of g k) in
    let names = names_counted g k in
    omega (arith, same, within, both, names)

pub child_name : (g : Grammar) (k c n : ℕ) → n ≡ length (input_names g k) → c < length (class_at g k).children
    → get_or (needed_names g k) (n + c) [] ≡ (child_at g k c).name
child_name g k c n same within =
    ap (λ j. get_or (needed_names g k) (j + c) []) same
    ∙ get_or-append-add (input_names g k) (child_names_of g k) c []
    ∙ ap (λ (ns : List NameText). get_or ns c []) (names_of_numbered 0 (class_at g k).children)
    ∙ get_or-map (λ (x : Child). x.name) (class_at g k).children c (trees.child [] [] false) [] within
