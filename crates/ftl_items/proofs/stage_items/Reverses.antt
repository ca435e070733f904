-- A list the other way round has the same entries.
use Rattle.std.proofs.Common.{◌≡◌, sym, subst, ⊎_elim, List, [], ◌∷◌, ◌++◌, reverse, Contains}
use Rattle.std.proofs.lemmas.List.{reverse-append}
use Rattle.std.proofs.lemmas.List.Elements.{Contains-append_cases, Contains-append_left, Contains-append_right}
use Rattle.ftl_model.specs.lists.Lists.{AreDistinct}
use Rattle.ftl_model.proofs.lists.Elements.{distinct-append, here_in, in_cases, later_in, nothing_in}

pub reverse-cons : {X : Type 0} (x : X) (xs : List X) → reverse (x ∷ xs) ≡ reverse xs ++ (x ∷ [])
reverse-cons x xs = reverse-append (x ∷ []) xs

pub in_reverse : {X : Type 0} (xs : List X) (z : X) → Contains (reverse xs) z → Contains xs z
in_reverse [] z h = h
in_reverse (x ∷ xs) z h =
    ⊎_elim (λ later. later_in x z xs (in_reverse xs z later))
    (λ last. ⊎_elim (λ same. subst (Contains (x ∷ xs)) same (here_in x xs)) (λ none. absurd (nothing_in z none))
    (in_cases x z [] last))
    (Contains-append_cases (reverse xs) (x ∷ []) z (subst (λ ys. Contains ys z) (reverse-cons x xs) h))

pub reverse_has : {X : Type 0} (xs : List X) (z : X) → Contains xs z → Contains (reverse xs) z
reverse_has [] z h = h
reverse_has (x ∷ xs) z h =
    subst (λ ys. Contains ys z) (sym (reverse-cons x xs))
    (⊎_elim
    (λ same. Contains-append_right (reverse xs) (x ∷ []) z (subst (Contains (x ∷ [])) same (here_in x [])))
    (λ later. Contains-append_left (reverse xs) (x ∷ []) z (reverse_has xs z later)) (in_cases x z xs h))

pub distinct-reverse : {X : Type 0} (xs : List X) → AreDistinct xs → AreDistinct (reverse xs)
distinct-reverse [] h = tt
distinct-reverse (x ∷ xs) h =
    subst AreDistinct (sym (reverse-cons x xs))
    (distinct-append (reverse xs) (x ∷ []) (distinct-reverse xs h.1) ((λ none. nothing_in x none), tt)
    (λ z here last.
    ⊎_elim (λ same. h.0 (subst (Contains xs) (sym same) (in_reverse xs z here))) (λ none. nothing_in z none)
    (in_cases x z [] last)))
