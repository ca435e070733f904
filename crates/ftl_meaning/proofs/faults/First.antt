-- The first fault of a list, entry by entry.
use Rattle.std.proofs.Common.{◌≡◌, ℕ, ◌+◌, ◌<◌, List, [], ◌∷◌, length, map, drop, get_or, Option, Some, None, refl, ◌∙◌, ap, add-one}
use Rattle.std.proofs.Math.Seq.{drop-cons}
use Rattle.ftl_meaning.specs.faults.FirstFault.{first_there, first_of}
use Rattle.ftl_meaning.specs.declared.faults.fault.GrammarFault.{GrammarFault}

-- what is left, by its first entry
rest_is : {X : Type 0} (xs : List X) (i : ℕ) (d : X) → i < length xs → drop i xs ≡ get_or xs i d ∷ drop (i + 1) xs
rest_is xs i d within = rw (add-one, drop-cons xs i d within)

-- an entry without a fault
pub first_of_passes : {X : Type 0} (f : X → Option GrammarFault) (xs : List X) (i : ℕ) (d : X) → i < length xs
    → f (get_or xs i d) ≡ None → first_of f (drop i xs) ≡ first_of f (drop (i + 1) xs)
first_of_passes f xs i d within here =
    ap (first_of f) (rest_is xs i d within) ∙ ap (λ o. first_there (o ∷ map f (drop (i + 1) xs))) here

-- an entry with one
pub first_of_stops : {X : Type 0} (f : X → Option GrammarFault) (xs : List X) (i : ℕ) (d : X) (e : GrammarFault)
    → i < length xs → f (get_or xs i d) ≡ Some e → first_of f (drop i xs) ≡ Some e
first_of_stops f xs i d e within here =
    ap (first_of f) (rest_is xs i d within) ∙ ap (λ o. first_there (o ∷ map f (drop (i + 1) xs))) here

-- no entries are left
pub first_of_ends : {X : Type 0} (f : X → Option GrammarFault) (xs : List X) → first_of f (drop (length xs) xs) ≡ None
first_of_ends f [] = refl
first_of_ends f (x ∷ xs) = first_of_ends f xs

-- the steps of a loop over entries
pub ruleset first_steps = (first_of_passes, first_of_stops, first_of_ends)
