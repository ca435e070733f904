-- Names none of which stands twice, and their places.
use Rattle.std.proofs.Common.{◌≡◌, ℕ, zero, suc, ◌+◌, ◌<◌, Bool, true, false, not, ◌||◌, cond, if◌then◌else◌, refl, sym, ◌∙◌, ap, subst, ⊎_elim, arith, List, [], ◌∷◌, ◌++◌, length, get_or, Contains, Option, Some, None}
use Rattle.std.specs.List.{position_or_len}
use Rattle.std.specs.Str.{bytes_eq}
use Rattle.std.proofs.lemmas.Bool.{or_parts, true≢false}
use Rattle.std.proofs.lemmas.List.Folds.{list_any-append}
use Rattle.std.proofs.lemmas.Map.Views.{Contains-from_any}
use Rattle.std.proofs.lemmas.Option.{none-some}
use Rattle.std.proofs.lemmas.Slice.Eq.{bytes_eq-Decides}
use Rattle.ftl_model.specs.lists.Lists.{AreDistinct}
use Rattle.ftl_model.proofs.lists.Elements.{in_cases, nothing_in}
use Rattle.ftl_grammar.specs.syntax.Trees.{NameText}
use Rattle.ftl_meaning.specs.faults.FirstFault.{second_name}
use Rattle.ftl_meaning.specs.faults.Numbering.{is_among}
use Rattle.ftl_meaning.proofs.faults.SecondNames.{second_in_first}

pub same_name : (a b : NameText) → bytes_eq a b ≡ true → a ≡ b
same_name a b e = (bytes_eq-Decides a b).0 e

pub name_itself : (a : NameText) → bytes_eq a a ≡ true
name_itself a = (bytes_eq-Decides a a).1 refl

-- names that differ
pub names_differ : (a b : NameText) → (a ≡ b → ⊥) → bytes_eq a b ≡ false
names_differ a b apart = by_test (bytes_eq a b) refl
  where
    by_test : (t : Bool) → bytes_eq a b ≡ t → t ≡ false
    by_test true e = absurd (apart (same_name a b e))
    by_test false e = refl

-- a name that is among others is one of them
pub among_in : (ns : List NameText) (name : NameText) → is_among ns name ≡ true → Contains ns name
among_in ns name h = Contains-from_any same_name name ns h

-- and one of them is among them
pub in_among : (ns : List NameText) (name : NameText) → Contains ns name → is_among ns name ≡ true
in_among [] name h = absurd (nothing_in name h)
in_among (x ∷ xs) name h =
    ⊎_elim (λ same. ap (λ b. b || is_among xs name) ((bytes_eq-Decides name x).1 (sym same)))
    (λ later. ap (λ b. bytes_eq name x || b) (in_among xs name later) ∙ or_true (bytes_eq name x))
    (in_cases x name xs h)
  where
    or_true : (b : Bool) → b || true ≡ true
    or_true true = refl
    or_true false = refl

-- names none of which stands twice or stands before
pub distinct_names : (before xs : List NameText) → second_name before xs ≡ None
    → AreDistinct xs × ((x : NameText) → Contains xs x → is_among before x ≡ false)
distinct_names before [] h = (tt, λ x in_it. absurd (nothing_in x in_it))
distinct_names before (y ∷ ys) h =
    by_test (is_among before y) refl (λ rest. distinct_names (before ++ (y ∷ [])) ys rest) h
  where
    Goes : List NameText → Type 0
    Goes seen = AreDistinct ys × ((x : NameText) → Contains ys x → is_among seen x ≡ false)

    by_test : (b : Bool) → is_among before y ≡ b
        → (second_name (before ++ (y ∷ [])) ys ≡ None → Goes (before ++ (y ∷ [])))
        → (if b then Some y else second_name (before ++ (y ∷ [])) ys) ≡ None
        → AreDistinct (y ∷ ys) × ((x : NameText) → Contains (y ∷ ys) x → is_among before x ≡ false)
    by_test true e go h = absurd (none-some y (sym h))
    by_test false e go h =
        let rest = go h in
        let split : (x : NameText) → Contains ys x → (is_among before x ≡ false) × (is_among (y ∷ []) x ≡ false) =
        λ x later. or_parts (is_among before x) (is_among (y ∷ []) x)
        (sym (list_any-append (bytes_eq x) before (y ∷ [])) ∙ rest.1 x later) in (
          ((λ again. true≢false (sym (name_itself y) ∙ (or_parts (bytes_eq y y) false (split y again).1).0)), rest.0),
          λ x in_it. ⊎_elim (λ same. subst (λ z. is_among before z ≡ false) same e) (λ later. (split x later).0)
              (in_cases y x ys in_it),
        )

-- the first name is none of those before, and the rest have it before them
first_is_new : (before : List NameText) (x : NameText) (xs : List NameText) → second_name before (x ∷ xs) ≡ None
    → (is_among before x ≡ false) × (second_name (before ++ (x ∷ [])) xs ≡ None)
first_is_new before x xs h = by_test (is_among before x) refl h
  where
    by_test : (b : Bool) → is_among before x ≡ b
        → (if b then Some x else second_name (before ++ (x ∷ [])) xs) ≡ None
        → (is_among before x ≡ false) × (second_name (before ++ (x ∷ [])) xs ≡ None)
    by_test true e h = absurd (none-some x (sym h))
    by_test false e h = (e, h)

-- each name is none of those before, and stands first at its own place
own_place : (before xs : List NameText) → second_name before xs ≡ None → (j : ℕ) (d : NameText) → j < length xs
    → (is_among before (get_or xs j d) ≡ false) × (position_or_len (bytes_eq (get_or xs j d)) xs ≡ j)
own_place before [] h j d below = absurd (let z : ⊥ = omega (arith, below) in z)
own_place before (x ∷ xs) h zero d below = (
  (first_is_new before x xs h).0,
  ap (λ b. cond (not b) (1 + position_or_len (bytes_eq x) xs) 0) (name_itself x),
)
own_place before (x ∷ xs) h (suc j) d below =
    let rest = own_place (before ++ (x ∷ [])) xs (first_is_new before x xs h).1 j d (omega (arith, below)) in
    let y = get_or xs j d in
    let split = or_parts (is_among before y) (is_among (x ∷ []) y) (sym (list_any-append (bytes_eq y) before (x ∷ [])) ∙ rest.0) in (
      split.0,
      ap (λ b. cond (not b) (1 + position_or_len (bytes_eq y) xs) 0) (or_parts (bytes_eq y x) false split.1).0
          ∙ ap (λ n. 1 + n) rest.1
          ∙ (let z : 1 + j ≡ suc j = omega arith in z),
    )

-- a name stands at one place
pub one_place : (xs : List NameText) → second_name [] xs ≡ None → (j k : ℕ) → j < length xs → k < length xs
    → get_or xs j [] ≡ get_or xs k [] → j ≡ k
one_place xs h j k in_j in_k same =
    sym (own_place [] xs h j [] in_j).1 ∙ ap (λ n. position_or_len (bytes_eq n) xs) same ∙ (own_place [] xs h k [] in_k).1

-- where no name stands twice, none does in the front
pub once_in_front : (xs ys : List NameText) → second_name [] (xs ++ ys) ≡ None → second_name [] xs ≡ None
once_in_front xs ys h = by_case (second_name [] xs) refl
  where
    by_case : (o : Option NameText) → second_name [] xs ≡ o → o ≡ None
    by_case None e = refl
    by_case (Some n) e = absurd (none-some n (sym h ∙ second_in_first [] xs ys n e))
