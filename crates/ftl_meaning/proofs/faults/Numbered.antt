-- Entries with their numbers, from the front.
use Rattle.std.proofs.Common.{◌≡◌, ℕ, ◌+◌, ◌<◌, ◌≤◌, List, [], ◌∷◌, ◌++◌, length, map, flat_map, take, drop, get_or, refl, sym, ◌∙◌, ap, add-one}
use Rattle.std.proofs.Math.ListN.{length-append}
use Rattle.std.proofs.lemmas.List.{take_more}
use Rattle.std.proofs.lemmas.Grind.{flat_map-append}
use Rattle.std.proofs.lemmas.List.{append-nil}
use Rattle.std.proofs.lemmas.List.Folds.{length-flat_map-take}
use Rattle.ftl_meaning.specs.faults.Numbering.{numbered}
use Rattle.ftl_meaning.proofs.faults.Counting.{left_is}

-- one entry more, with its number
pub numbered_passes : {X Y : Type 0} (f : ℕ × X → Y) (xs : List X) (i : ℕ) (d : X) → i < length xs
    → map f (numbered i (drop i xs)) ≡ f (i, get_or xs i d) ∷ map f (numbered (i + 1) (drop (i + 1) xs))
numbered_passes f xs i d within =
    ap (λ ys. map f (numbered i ys)) (left_is xs i d within)
    ∙ ap (λ n. f (i, get_or xs i d) ∷ map f (numbered n (drop (i + 1) xs))) (sym (add-one i))

-- no entries are left
pub numbered_ends : {X Y : Type 0} (f : ℕ × X → Y) (xs : List X) (n : ℕ) → map f (numbered n (drop (length xs) xs)) ≡ []
numbered_ends f [] n = refl
numbered_ends f (x ∷ xs) n = numbered_ends f xs n

-- how many entries the first lists have, with one list more
pub count_more : {X Y : Type 0} (f : X → List Y) (xs : List X) (i : ℕ) (d : X) → i < length xs
    → length (flat_map f (take (i + 1) xs)) ≡ length (flat_map f (take i xs)) + length (f (get_or xs i d))
count_more f xs i d within =
    ap (λ ys. length (flat_map f ys)) (take_more xs i d within)
    ∙ ap length (flat_map-append f (take i xs) (get_or xs i d ∷ []))
    ∙ ap (λ ys. length (flat_map f (take i xs) ++ ys)) (append-nil (f (get_or xs i d)))
    ∙ length-append (flat_map f (take i xs)) (f (get_or xs i d))

-- no more than all lists have
pub count_within : {X Y : Type 0} (f : X → List Y) (xs : List X) (i : ℕ) (d : X) → i < length xs
    → length (flat_map f (take i xs)) + length (f (get_or xs i d)) ≤ length (flat_map f xs)
count_within f xs i d within = length-flat_map-take f xs i d within

-- the steps of a loop that builds numbered entries
pub ruleset numbered_steps = (numbered_passes, numbered_ends, count_more, count_within)
