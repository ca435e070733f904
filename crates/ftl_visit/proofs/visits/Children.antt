-- One child more.
use Rattle.std.proofs.Common.{◌≡◌, ℕ, zero, suc, ◌+◌, List, ◌++◌, flat_map, sym, ◌∙◌, ap, add-one, arith, append_assoc, append-nil}
use Rattle.std.specs.List.{range_with_len}

-- what the numbers from a on give, with one more at the end
from_more : {X : Type 0} (f : ℕ → List X) (a n : ℕ)
    → flat_map f (range_with_len a (suc n)) ≡ flat_map f (range_with_len a n) ++ f (a + n)
from_more f a zero =
    append-nil (f a) ∙ ap f (let e : a ≡ a + 0 = omega arith in e)
from_more f a (suc n) =
    ap (λ xs. f a ++ xs) (from_more f (a + 1) n
    ∙ ap (λ m. flat_map f (range_with_len (a + 1) n) ++ f m) (let e : a + 1 + n ≡ a + suc n = omega arith in e))
    ∙ sym (append_assoc (f a) (flat_map f (range_with_len (a + 1) n)) (f (a + suc n)))

-- one more child, behind what stands
pub child_more : {X : Type 0} (f : ℕ → List X) (before : List X) (n : ℕ)
    → before ++ flat_map f (range_with_len 0 (n + 1)) ≡ (before ++ flat_map f (range_with_len 0 n)) ++ f n
child_more f before n =
    ap (λ m. before ++ flat_map f (range_with_len 0 m)) (add-one n)
    ∙ ap (λ xs. before ++ xs) (from_more f 0 n)
    ∙ ap (λ m. before ++ (flat_map f (range_with_len 0 n) ++ f m)) (let e : 0 + n ≡ n = omega arith in e)
    ∙ sym (append_assoc before (flat_map f (range_with_len 0 n)) (f n))
