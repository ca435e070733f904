-- The first fault of numbered entries, entry by entry.
use Rattle.std.proofs.Common.{◌≡◌, ℕ, suc, ◌+◌, ◌<◌, List, [], ◌∷◌, length, map, drop, get_or, Option, Some, None, refl, sym, ◌∙◌, ap, arith, add-one}
use Rattle.ftl_meaning.specs.faults.FirstFault.{first_there, first_of}
use Rattle.ftl_meaning.specs.faults.Numbering.{numbered}
use Rattle.ftl_meaning.specs.declared.faults.fault.GrammarFault.{GrammarFault}
use Rattle.ftl_meaning.proofs.faults.Counting.{left_is}

-- what is left, with its first number
rest_is : {X : Type 0} (f : ℕ × X → Option GrammarFault) (xs : List X) (s i : ℕ) (d : X) → i < length xs
    → first_of f (numbered (s + i) (drop i xs)) ≡ first_there (f (s + i, get_or xs i d) ∷ map f (numbered (s + (i + 1)) (drop (i + 1) xs)))
rest_is f xs s i d within =
    let next : suc (s + i) ≡ s + (i + 1) = omega arith in
    ap (λ ys. first_of f (numbered (s + i) ys)) (left_is xs i d within)
    ∙ ap (λ n. first_there (f (s + i, get_or xs i d) ∷ map f (numbered n (drop (i + 1) xs)))) next

-- an entry without a fault
pub numbered_first_passes : {X : Type 0} (f : ℕ × X → Option GrammarFault) (xs : List X) (s i : ℕ) (d : X) → i < length xs
    → f (s + i, get_or xs i d) ≡ None
    → first_of f (numbered (s + i) (drop i xs)) ≡ first_of f (numbered (s + (i + 1)) (drop (i + 1) xs))
numbered_first_passes f xs s i d within here =
    rest_is f xs s i d within ∙ ap (λ o. first_there (o ∷ map f (numbered (s + (i + 1)) (drop (i + 1) xs)))) here

-- an entry with one
pub numbered_first_stops : {X : Type 0} (f : ℕ × X → Option GrammarFault) (xs : List X) (s i : ℕ) (d : X) (e : GrammarFault)
    → i < length xs → f (s + i, get_or xs i d) ≡ Some e → first_of f (numbered (s + i) (drop i xs)) ≡ Some e
numbered_first_stops f xs s i d e within here =
    rest_is f xs s i d within ∙ ap (λ o. first_there (o ∷ map f (numbered (s + (i + 1)) (drop (i + 1) xs)))) here

-- no entries are left
pub numbered_first_ends : {X : Type 0} (f : ℕ × X → Option GrammarFault) (xs : List X) (n : ℕ)
    → first_of f (numbered n (drop (length xs) xs)) ≡ None
numbered_first_ends f [] n = refl
numbered_first_ends f (x ∷ xs) n = numbered_first_ends f xs n

-- the same, of entries that are numbered by their places
pub placed_first_passes : {X : Type 0} (f : ℕ × X → Option GrammarFault) (xs : List X) (i : ℕ) (d : X) → i < length xs
    → f (i, get_or xs i d) ≡ None
    → first_of f (numbered i (drop i xs)) ≡ first_of f (numbered (i + 1) (drop (i + 1) xs))
placed_first_passes f xs i d within here =
    ap (λ ys. first_of f (numbered i ys)) (left_is xs i d within)
    ∙ ap (λ n. first_there (f (i, get_or xs i d) ∷ map f (numbered n (drop (i + 1) xs)))) (sym (add-one i))
    ∙ ap (λ o. first_there (o ∷ map f (numbered (i + 1) (drop (i + 1) xs)))) here

pub placed_first_stops : {X : Type 0} (f : ℕ × X → Option GrammarFault) (xs : List X) (i : ℕ) (d : X) (e : GrammarFault)
    → i < length xs → f (i, get_or xs i d) ≡ Some e → first_of f (numbered i (drop i xs)) ≡ Some e
placed_first_stops f xs i d e within here =
    ap (λ ys. first_of f (numbered i ys)) (left_is xs i d within)
    ∙ ap (λ o. first_there (o ∷ map f (numbered (suc i) (drop (i + 1) xs)))) here

-- the steps of a loop over numbered entries
pub ruleset numbered_steps = (numbered_first_passes, numbered_first_stops, numbered_first_ends)

-- those where the numbers are places
pub ruleset placed_steps = (placed_first_passes, placed_first_stops, numbered_first_ends)
