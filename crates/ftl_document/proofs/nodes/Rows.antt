-- Rows from a place on.
use Rattle.std.proofs.Common.{◌≡◌, ℕ, suc, ◌+◌, ◌<◌, ◌≤◌, ◌-◌, sym, ◌∙◌, ap, ap₂, arith, List, ◌∷◌, ◌++◌, length}
use Rattle.std.proofs.Common.{get_or, take, drop, length-append, length-drop}
use Rattle.std.specs.Prelude.{slice_range}
use Rattle.std.proofs.Math.Seq.{drop-append_seam, drop-cons, take-append_seam}
use Rattle.std.proofs.lemmas.List.{drop-drop}
use Rattle.ftl_document.specs.declared.syntax.row.WrittenRow.{WrittenRow}

pub next_row : (xs : List WrittenRow) (at : ℕ) (row : WrittenRow) → at < length xs → row ≡ get_or xs at row
    → drop at xs ≡ row ∷ drop (suc at) xs
next_row xs at row within is = drop-cons xs at row within ∙ ap (λ y. y ∷ drop (suc at) xs) (sym is)

-- the rows between two places
pub between : (xs ys zs : List WrittenRow) (from end : ℕ) → drop from xs ≡ ys ++ zs → end ≡ from + length ys
    → slice_range xs from end ≡ ys
between xs ys zs from end left ends =
    ap₂ (λ n (ws : List WrittenRow). take n ws) (let z : end - from ≡ length ys = omega (arith, ends) in z) left
    ∙ take-append_seam ys zs

-- those behind them
pub behind : (xs ys zs : List WrittenRow) (from end : ℕ) → drop from xs ≡ ys ++ zs → end ≡ from + length ys
    → drop end xs ≡ zs
behind xs ys zs from end left ends =
    ap (λ n. drop n xs) ends ∙ sym (drop-drop (length ys) from xs) ∙ ap (drop (length ys)) left ∙ drop-append_seam ys zs

-- they are rows of the list
pub long_enough : (xs ys zs : List WrittenRow) (from end : ℕ) → from ≤ length xs → drop from xs ≡ ys ++ zs
    → end ≡ from + length ys → end ≤ length xs
long_enough xs ys zs from end within left ends =
    let many = length-drop from xs in
    let same = ap length left in
    let both = length-append ys zs in
    omega (arith, within, many, same, both, ends)
