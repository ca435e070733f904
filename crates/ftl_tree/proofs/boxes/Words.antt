-- What words stand for.
use Rattle.std.proofs.Common.{◌≡◌, ℕ, ◌+◌, ◌-◌, ◌<◌, ◌⊎◌, ◌&&◌, cond, nat_lt, pos, negsuc, ◌-ℤ◌, refl, ap, ◌∙◌, arith}
use Rattle.std.proofs.lemmas.Bool.{lt-ltb}
use Rattle.std.proofs.lemmas.Bool.Decides.{nat_tests}
use Rattle.std.proofs.lemmas.Int.{ints}
use Rattle.ftl_model.specs.layout.Values.{Value, number, overflow, IsValue, word_of_value}
use Rattle.ftl_tree.specs.boxes.WordValues.{value_of_word}

-- a number's word
number_undone : (w : ℕ) → 0 < w → w < 281474976710657 → value_of_word w ≡ number (pos w -ℤ pos 140737488355329)
number_undone w low high =
    ap (λ b. cond (b && nat_lt w 281474976710657) (number (pos w -ℤ pos 140737488355329)) overflow) (lt-ltb 0 w low)
    ∙ ap (λ b. cond b (number (pos w -ℤ pos 140737488355329)) overflow) (lt-ltb w 281474976710657 high)

pub undone : (v : Value) → IsValue v → value_of_word (word_of_value v) ≡ v
undone (number (pos n)) h =
    number_undone (n + 140737488355329) (omega (arith, ints, h)) (omega (arith, ints, h))
    ∙ ap number (omega (arith, ints))
undone (number (negsuc n)) h =
    number_undone (140737488355328 - n) (omega (arith, ints, h)) (omega (arith, ints, h))
    ∙ ap number (omega (arith, ints, h))
undone overflow h = refl

pub undone_by : (w : ℕ) (v : Value) → IsValue v → w ≡ word_of_value v → value_of_word w ≡ v
undone_by w v h e = ap value_of_word e ∙ undone v h

pub none_stands : (w : ℕ) → (w ≡ 0) ⊎ (281474976710657 < w) → value_of_word w ≡ overflow
none_stands w h = grind (arith, nat_tests, h)

pub ruleset word_steps = (undone_by, none_stands)
