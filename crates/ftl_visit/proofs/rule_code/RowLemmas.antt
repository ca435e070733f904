-- What a row says of the stack that stands in it.
use Rattle.std.proofs.Common.{◌≡◌, ℕ, suc, ◌+◌, ◌-◌, ◌<◌, ◌≤◌, List, [], ◌∷◌, ◌++◌, set}
use Rattle.std.proofs.Common.{reverse, take, length, get_or, arith, ap, sym, ◌∙◌, take-suc}
use Rattle.std.proofs.lemmas.List.{reverse-append}
use Rattle.std.proofs.lemmas.Grind.{common_steps}

-- an entry that is put at the height is the last one
pub put_at : {X : Type 0} (row : List X) (n : ℕ) (x : X) → n < length row
    → reverse (take (n + 1) (set row n x)) ≡ x ∷ reverse (take n row)
put_at row n x h =
    let e : take (n + 1) (set row n x) ≡ take n row ++ x ∷ [] = grind (arith, common_steps, h) in
    ap reverse e ∙ reverse-append (take n row) (x ∷ [])

-- the entry below the height is the last one
pub under_at : {X : Type 0} (row : List X) (n : ℕ) (d : X) → 1 ≤ n → n ≤ length row
    → reverse (take n row) ≡ get_or row (n - 1) d ∷ reverse (take (n - 1) row)
under_at row n d h k =
    let up : suc (n - 1) ≡ n = omega (arith, h) in
    let e : take (suc (n - 1)) row ≡ take (n - 1) row ++ get_or row (n - 1) d ∷ [] =
    take-suc row (n - 1) d (omega (arith, h, k)) in
    ap (λ m. reverse (take m row)) (sym up) ∙ ap reverse e
    ∙ reverse-append (take (n - 1) row) (get_or row (n - 1) d ∷ [])
