-- Values: a whole number, or Overflow where a number went out of range. Operators are exact, for a width: its numbers
-- go from the one below minus its greatest number to its greatest number.
use Rattle.std.specs.Prelude.{ℕ, ◌+◌, ◌-◌, Bool, true, false, ◌&&◌, if◌then◌else◌, ℤ, pos, negsuc, ◌+ℤ◌, ◌-ℤ◌, ◌*ℤ◌}
use Rattle.std.specs.Prelude.{neg_ℤ, ◌≤ℤ◌, int_le}
use Rattle.std.specs.Ordering.{int_eq}
use Rattle.std.specs.Int.{int_min, int_max, int_div_euclid}

-- a whole number, or Overflow
pub data Value : Type 0 where
  number : ℤ → Value
  overflow : Value

-- the greatest numbers of the two widths
abbrev pub narrow : ℕ
narrow = 2147483647

-- 140737488355327, the greatest number of 48 bits
abbrev pub wide : ℕ
wide = 140737488355327

-- from the one below minus the greatest number to the greatest number
abbrev pub in_range : (greatest : ℕ) → ℤ → Bool
in_range greatest n = int_le (negsuc greatest) n && int_le n (pos greatest)

-- a number in the range of a width, or Overflow
abbrev pub IsValueIn : (greatest : ℕ) → Value → Type 0
IsValueIn greatest (number n) = (negsuc greatest ≤ℤ n) × (n ≤ℤ pos greatest)
IsValueIn greatest overflow = Unit {0}

-- a value of some width: the wide range has the narrow one in it
abbrev pub IsValue : Value → Type 0
IsValue v = IsValueIn wide v

-- the value of an exact result: itself in range, and Overflow out of range
abbrev pub value_of : (greatest : ℕ) → ℤ → Value
value_of greatest n = if in_range greatest n then number n else overflow

-- an operator on whole numbers, with Overflow where an operand is Overflow
abbrev pub lifted : (ℤ → ℤ → Value) → Value → Value → Value
lifted operator (number a) (number b) = operator a b
lifted operator (number a) overflow = overflow
lifted operator overflow b = overflow

-- the sum
abbrev pub sum_of : (greatest : ℕ) → Value → Value → Value
sum_of greatest = lifted (λ a b. value_of greatest (a +ℤ b))

-- the difference
abbrev pub difference_of : (greatest : ℕ) → Value → Value → Value
difference_of greatest = lifted (λ a b. value_of greatest (a -ℤ b))

-- the product
abbrev pub product_of : (greatest : ℕ) → Value → Value → Value
product_of greatest = lifted (λ a b. value_of greatest (a *ℤ b))

-- the number with its sign turned
abbrev pub negated_of : (greatest : ℕ) → Value → Value
negated_of greatest (number a) = value_of greatest (neg_ℤ a)
negated_of greatest overflow = overflow

-- rounded towards minus infinity; k is not 0
abbrev pub quotient_of : (greatest : ℕ) → Value → (k : ℕ) → Value
quotient_of greatest (number a) k = value_of greatest (int_div_euclid a (pos k))
quotient_of greatest overflow k = overflow

-- the least and the greatest of two stay in the range of both
abbrev pub least_of : Value → Value → Value
least_of = lifted (λ a b. number (int_min a b))

-- the greatest of two
abbrev pub greatest_of : Value → Value → Value
greatest_of = lifted (λ a b. number (int_max a b))

-- whether two values are equal
abbrev pub same_value : Value → Value → Bool
same_value (number a) (number b) = int_eq a b
same_value overflow overflow = true
same_value _ _ = false

-- the word of 0
abbrev pub zero_word : ℕ
zero_word = 140737488355329

-- the word of Overflow, which is the greatest
abbrev pub overflow_word : ℕ
overflow_word = 281474976710657

-- the word of a value, the same for both widths: from 1 on for the numbers of the wide range, from the least to the
-- greatest, then that of Overflow, and 0 for none, since 0 says that a cell is empty
abbrev pub word_of_number : ℤ → ℕ
word_of_number (pos n) = n + zero_word
word_of_number (negsuc n) = zero_word - 1 - n

-- the word of a number, or that of Overflow
abbrev pub word_of_value : Value → ℕ
word_of_value (number n) = word_of_number n
word_of_value overflow = overflow_word
