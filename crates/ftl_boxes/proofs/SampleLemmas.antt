-- One piece or group more, and the draws that it takes.
use Rattle.std.proofs.Common.{◌≡◌, ℕ, ◌+◌, ◌-◌, ◌*◌, ◌≤◌, zero, suc, List, ◌++◌, sym, ap, ◌∙◌, arith}
use Rattle.std.specs.List.{flat_map, range_with_len}
use Rattle.std.proofs.lemmas.List.{append_assoc, append-nil}
use Rattle.ftl_boxes.specs.Numbers.{next_state, state}

-- the state moves twice for a piece
pub state_after_piece : (n i r : ℕ) → r ≡ state n (2 * i) → next_state (next_state r) ≡ state n (2 * (i + 1))
state_after_piece n i r e =
    let two : suc (suc (2 * i)) ≡ 2 * (i + 1) = omega arith in
    ap (λ s. next_state (next_state s)) e ∙ ap (state n) two

last_part : {X : Type 0} (f : ℕ → List X) (a n j : ℕ) → a + n ≡ j →
    flat_map f (range_with_len a (suc n)) ≡ flat_map f (range_with_len a n) ++ f j
last_part f a zero j e = append-nil (f a) ∙ ap f (omega arith)
last_part f a (suc n) j e =
    ap (λ l. f a ++ l) (last_part f (a + 1) n j (omega arith))
    ∙ sym (append_assoc (f a) (flat_map f (range_with_len (a + 1) n)) (f j))

-- the parts up to a number, and the part of this number
pub parts_more : {X : Type 0} (f : ℕ → List X) (bs : List X) (a j : ℕ) → a ≤ j →
    (bs ++ flat_map f (range_with_len a (j - a))) ++ f j ≡ bs ++ flat_map f (range_with_len a (j + 1 - a))
parts_more f bs a j le =
    let more : suc (j - a) ≡ j + 1 - a = omega arith in
    append_assoc bs (flat_map f (range_with_len a (j - a))) (f j)
    ∙ ap (λ l. bs ++ l) (sym (last_part f a (j - a) j (omega arith)) ∙ ap (λ k. flat_map f (range_with_len a k)) more)

-- the same from 0
pub parts_from_zero : {X : Type 0} (f : ℕ → List X) (bs : List X) (j : ℕ) →
    (bs ++ flat_map f (range_with_len 0 j)) ++ f j ≡ bs ++ flat_map f (range_with_len 0 (j + 1))
parts_from_zero f bs j =
    let more : suc j ≡ j + 1 = omega arith in
    append_assoc bs (flat_map f (range_with_len 0 j)) (f j)
    ∙ ap (λ l. bs ++ l) (sym (last_part f 0 j j (omega arith)) ∙ ap (λ k. flat_map f (range_with_len 0 k)) more)

-- what stands between brackets, after a text
pub in_brackets : (bs opening inner closing : List ℕ) →
    ((bs ++ opening) ++ inner) ++ closing ≡ bs ++ (opening ++ (inner ++ closing))
in_brackets bs opening inner closing =
    append_assoc (bs ++ opening) inner closing ∙ append_assoc bs opening (inner ++ closing)
