-- Bytes that a source gives in several calls.
use Rattle.std.proofs.Common.{◌≡◌, ℕ, ◌+◌, ◌<◌, Option, Some, Ok, List, ◌++◌, length, take, drop, min, sym, ap, subst}
use Rattle.std.proofs.Common.{◌∙◌, arith, take_at, length-take-le, length-append, length-drop, take-append-drop}
use Rattle.std.proofs.Common.{drop_of_length-le}
use Rattle.std.specs.Io.KnownBytes.{Consumes, ReadConsumes}
use Rattle.std.proofs.KnownBytes.{Consumes-trans}
use Rattle.std.proofs.Math.Seq.{take-add}
use Rattle.ftl_edge.specs.declared.fault.Failed.{Failed}

-- f bytes were read into xs, and then n more behind them into ys
pub Consumes-take_more : (a b c : Option (List ℕ)) (xs ys : List ℕ) (f n : ℕ) → take f ys ≡ take f xs → Consumes a b
    (take f xs) → Consumes b c (take n (drop f ys))
    → Consumes a c (take (f + n) ys)
Consumes-take_more a b c xs ys f n front before more =
    subst (Consumes a c) (sym (take-add f n ys ∙ ap (λ l. l ++ take n (drop f ys)) front)) (Consumes-trans a b c (take
    f xs) (take n (drop f ys)) before more)

-- what a call copied to the front of a room is taken from what is left, and is nothing only at the end
pub ReadConsumes-copied : (left left' room room' : List ℕ) (chunk n : ℕ) → 0 < chunk → n ≡ min (length left) (min chunk
    (length room)) → left' ≡ drop n left
    → room' ≡ take n left ++ drop n room → ReadConsumes {E = Failed} (Some left) (Some left') (Ok n) room'
ReadConsumes-copied left left' room room' chunk n positive count rest filled =
    let long : length (take n left) ≡ n = length-take-le n left (omega arith) in
    let front : take n room' ≡ take n left = ap (take n) filled ∙ take_at (take n left) (drop n room) n long in
    let same : length room' ≡ length room = omega (
      arith,
      ap length filled,
      length-append (take n left) (drop n room),
      length-drop n room,
      long,
    ) in (
      sym (ap (λ l. l ++ left') front ∙ ap (λ l. take n left ++ l) rest ∙ take-append-drop n left),
      λ none some. rest ∙ drop_of_length-le left (omega arith),
    )
