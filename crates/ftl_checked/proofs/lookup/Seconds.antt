-- The first name that stands before, name by name.
use Rattle.std.proofs.Common.{◌≡◌, ℕ, zero, suc, ◌+◌, ◌<◌, Bool, true, false, cond, ◌||◌, if◌then◌else◌, nat_lt, List, [], ◌∷◌, ◌++◌, length, take, drop, get_or, Option, Some, None, refl, sym, ◌∙◌, ap, arith, append_assoc}
use Rattle.std.specs.List.{list_any, position, position_or_len}
use Rattle.std.specs.Option.{option_map, option_map_or}
use Rattle.std.proofs.lemmas.Bool.Decides.{nat_tests}
use Rattle.std.proofs.lemmas.List.{take_more}
use Rattle.std.proofs.Math.Seq.{take-length}
use Rattle.ftl_grammar.specs.syntax.Trees.{NameText}
use Rattle.ftl_meaning.specs.faults.FirstFault.{second_name}
use Rattle.ftl_meaning.specs.faults.Numbering.{is_among}
use Rattle.ftl_meaning.proofs.faults.Counting.{left_is}
use Rattle.ftl_checked.proofs.lookup.Finding.{position_first, position_next}

-- whether any of two lists passes
pub any_of_both : {X : Type 0} (p : X → Bool) (xs ys : List X) → list_any p (xs ++ ys) ≡ list_any p xs || list_any p ys
any_of_both p [] ys = refl
any_of_both p (x ∷ xs) ys = by_test (p x) (any_of_both p xs ys)
  where
    by_test : (b : Bool) → list_any p (xs ++ ys) ≡ list_any p xs || list_any p ys
        → b || list_any p (xs ++ ys) ≡ (b || list_any p xs) || list_any p ys
    by_test true rest = refl
    by_test false rest = rest

-- the same names before, and one that is none of them
pub after_passes : (before xs : List NameText) (i : ℕ) (d : NameText) → i < length xs
    → is_among (before ++ take i xs) (get_or xs i d) ≡ false
    → second_name (before ++ take i xs) (drop i xs) ≡ second_name (before ++ take (i + 1) xs) (drop (i + 1) xs)
after_passes before xs i d within new =
    ap (second_name (before ++ take i xs)) (left_is xs i d within)
    ∙ ap (λ b. if b then Some (get_or xs i d) else second_name ((before ++ take i xs) ++ (get_or xs i d ∷ [])) (drop (i + 1) xs)) new
    ∙ ap (λ bs. second_name bs (drop (i + 1) xs))
    (append_assoc before (take i xs) (get_or xs i d ∷ []) ∙ ap (λ ys. before ++ ys) (sym (take_more xs i d within)))

-- one that is among them
pub after_stops : (before xs : List NameText) (i : ℕ) (d : NameText) → i < length xs
    → is_among (before ++ take i xs) (get_or xs i d) ≡ true
    → second_name (before ++ take i xs) (drop i xs) ≡ Some (get_or xs i d)
after_stops before xs i d within old =
    ap (second_name (before ++ take i xs)) (left_is xs i d within)
    ∙ ap (λ b. if b then Some (get_or xs i d) else second_name ((before ++ take i xs) ++ (get_or xs i d ∷ [])) (drop (i + 1) xs)) old

-- no names are left
pub after_ends : (before xs : List NameText) → second_name before (drop (length xs) xs) ≡ None
after_ends before [] = refl
after_ends before (x ∷ xs) = after_ends before xs

-- where nothing stands before all
pub second_passes : (xs : List NameText) (i : ℕ) (d : NameText) → i < length xs
    → is_among (take i xs) (get_or xs i d) ≡ false
    → second_name (take i xs) (drop i xs) ≡ second_name (take (i + 1) xs) (drop (i + 1) xs)
second_passes xs i d within new = after_passes [] xs i d within new

pub second_stops : (xs : List NameText) (i : ℕ) (d : NameText) → i < length xs
    → is_among (take i xs) (get_or xs i d) ≡ true
    → second_name (take i xs) (drop i xs) ≡ Some (get_or xs i d)
second_stops xs i d within old = after_stops [] xs i d within old

pub second_ends : (before xs : List NameText) → second_name before (drop (length xs) xs) ≡ None
second_ends before xs = after_ends before xs

-- no place is below 0
none_below : (o : Option ℕ) → option_map_or (λ n. nat_lt n 0) o false ≡ false
none_below None = refl
none_below (Some n) = grind (arith, nat_tests)

-- a place and a bound, both one more
one_on : (o : Option ℕ) (i : ℕ) → option_map_or (λ n. nat_lt n (suc i)) (option_map suc o) false ≡ option_map_or (λ n. nat_lt n i) o false
one_on None i = refl
one_on (Some n) i = grind (arith, nat_tests)

-- whether any of the first passes, by the first place that does
pub front_any : {X : Type 0} (p : X → Bool) (xs : List X) (i : ℕ)
    → list_any p (take i xs) ≡ option_map_or (λ n. nat_lt n i) (position p xs) false
front_any p [] zero = refl
front_any p [] (suc i) = refl
front_any p (x ∷ xs) zero = sym (none_below (position p (x ∷ xs)))
front_any p (x ∷ xs) (suc i) = by_test (p x) refl (front_any p xs i)
  where
    by_test : (b : Bool) → p x ≡ b → list_any p (take i xs) ≡ option_map_or (λ n. nat_lt n i) (position p xs) false
        → b || list_any p (take i xs) ≡ option_map_or (λ n. nat_lt n (suc i)) (position p (x ∷ xs)) false
    by_test true e rest =
        let first : nat_lt 0 (suc i) ≡ true = grind (arith, nat_tests) in
        sym first ∙ ap (λ o. option_map_or (λ n. nat_lt n (suc i)) o false) (sym (position_first p x xs e))
    by_test false e rest =
        rest ∙ sym (one_on (position p xs) i)
        ∙ ap (λ o. option_map_or (λ n. nat_lt n (suc i)) o false) (sym (position_next p x xs e))

-- whether any passes, by the first place that does, or how many there are
pub any_place : {X : Type 0} (p : X → Bool) (xs : List X) → list_any p xs ≡ nat_lt (position_or_len p xs) (length xs)
any_place p xs =
    ap (list_any p) (sym (take-length xs)) ∙ front_any p xs (length xs)
    ∙ by_test (nat_lt (position_or_len p xs) (length xs)) refl
  where
    by_test : (b : Bool) → nat_lt (position_or_len p xs) (length xs) ≡ b
        → option_map_or (λ n. nat_lt n (length xs)) (cond b (Some (position_or_len p xs)) None) false ≡ b
    by_test true e = e
    by_test false e = refl

-- the steps of a loop over names
pub ruleset second_steps = (second_passes, second_stops, second_ends)

-- the steps of one over names after others
pub ruleset after_steps = (after_passes, after_stops, after_ends)
