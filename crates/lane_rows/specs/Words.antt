-- Which set a list of words of 64 bits stands for.
use Rattle.std.specs.Prelude.{ℕ, ◌+◌, ◌/◌, ◌%◌, Bool, List, [], ◌∷◌, ◌++◌, ◌==◌, zero, suc, if◌then◌else◌}
use Rattle.std.specs.Ordering.{nat_cmp}
use Rattle.std.specs.FinSet as set

-- the lowest bits of a word, as many as told, the lowest first
unfoldable pub bits_of : ℕ → ℕ → List Bool
bits_of zero word = []
bits_of (suc count) word = (word % 2 == 1) ∷ bits_of count (word / 2)

-- the bits of words of 64 bits, one word after another
unfoldable pub all_bits : List ℕ → List Bool
all_bits [] = []
all_bits (word ∷ words) = bits_of 64 word ++ all_bits words

-- the numbers whose bits are set, where the first bit stands for the number told
unfoldable pub set_from : ℕ → List Bool → set.FinSet nat_cmp
set_from number [] = set.empty
set_from number (bit ∷ bits) =
    if bit then set.insert (set_from (number + 1) bits) number else set_from (number + 1) bits

-- the set that words stand for: number n is bit n of them
unfoldable pub row_of : List ℕ → set.FinSet nat_cmp
row_of words = set_from 0 (all_bits words)
