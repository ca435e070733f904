-- Sums over the first entries of a list.
use Rattle.std.proofs.Common.{◌≡◌, ℕ, ◌+◌, ◌<◌, ◌≤◌, List, length, take, get_or, ap, ⊎_elim, arith}
use Rattle.std.specs.List.{sum_by}
use Rattle.std.proofs.lemmas.List.Sums.{sum_by-drop_more, sum_by-take-drop}
use Rattle.std.proofs.lemmas.Bool.{cases_lt}
use Rattle.std.proofs.lemmas.List.{take_all}

-- one entry more
pub one_further : (xs : List ℕ) (i : ℕ) → i < length xs
    → sum_by (λ n. n) (take (i + 1) xs) ≡ sum_by (λ n. n) (take i xs) + get_or xs i 0
one_further xs i within =
    let here = sum_by-take-drop (λ n. n) xs i in
    let next = sum_by-take-drop (λ n. n) xs (i + 1) in
    let left = sum_by-drop_more (λ n. n) xs i 0 within in
    omega (arith, here, next, left)

-- some of it is left where the first entries are not enough
pub some_left : (xs : List ℕ) (i step : ℕ) → sum_by (λ n. n) (take i xs) ≤ step → step < sum_by (λ n. n) xs
    → i < length xs
some_left xs i step few more =
    ⊎_elim (λ within. within)
    (λ past. let all = ap (sum_by (λ n. n)) (take_all i xs past) in absurd (omega (arith, all, few, more)))
    (cases_lt i (length xs))

-- the steps of a loop over counts
pub ruleset sum_steps = (one_further, some_left)
