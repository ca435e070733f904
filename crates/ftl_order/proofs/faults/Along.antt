-- The entries of a list with their numbers.
use Rattle.std.proofs.Common.{ℕ, ◌+◌, List, [], ◌∷◌, subst, Contains}
use Rattle.std.proofs.Common.{⊎_elim}
use Rattle.std.specs.List.{enumerate_from}
use Rattle.ftl_model.proofs.lists.Elements.{here_in, in_cases, later_in, nothing_in}

-- each entry has a number
pub numbered_has : {X : Type 0} (n : ℕ) (xs : List X) (x : X) → Contains xs x
    → (m : ℕ) × Contains (enumerate_from n xs) (m, x)
numbered_has n [] x there = absurd (nothing_in x there)
numbered_has n (y ∷ ys) x there =
    ⊎_elim
    (λ same. (
      n,
      subst (λ z. Contains ((n, y) ∷ enumerate_from (n + 1) ys) (n, z)) same
          (here_in (n, y) (enumerate_from (n + 1) ys)),
    ))
    (λ later. let rest = numbered_has (n + 1) ys x later in
    (rest.0, later_in (n, y) (rest.0, x) (enumerate_from (n + 1) ys) rest.1))
    (in_cases y x ys there)

-- what has a number is an entry
pub numbered_in : {X : Type 0} (n : ℕ) (xs : List X) (e : ℕ × X) → Contains (enumerate_from n xs) e → Contains xs e.1
numbered_in n [] e there = absurd (nothing_in e there)
numbered_in {X} n (y ∷ ys) e there =
    ⊎_elim
    (λ same. subst (λ (z : ℕ × X). Contains (y ∷ ys) z.1) same (here_in y ys))
    (λ later. later_in y e.1 ys (numbered_in (n + 1) ys e later))
    (in_cases (n, y) e (enumerate_from (n + 1) ys) there)
