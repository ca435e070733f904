-- What stands in front after bytes were written behind it.
use Rattle.std.proofs.Common.{◌≡◌, ℕ, ◌+◌, ◌≤◌, List, ◌++◌, length, take, ap, ◌∙◌, arith, subst, sym}
use Rattle.std.proofs.lemmas.List.{length-take-le, take-take}
use Rattle.std.proofs.Math.Seq.{take-append-add}

-- the front, and as many of the bytes behind it as count
pub spliced : (e k n : ℕ) (front more now : List ℕ) → e ≤ length front → n ≤ k
    → take (e + k) now ≡ take e front ++ more → take (e + n) now ≡ take e front ++ take n more
spliced e k n front more now inside few is =
    sym (take-take (e + n) (e + k) now (omega (arith, few)))
    ∙ ap (take (e + n)) is
    ∙ subst (λ m. take (m + n) (take e front ++ more) ≡ take e front ++ take n more)
    (length-take-le e front inside)
    (take-append-add (take e front) more n)
