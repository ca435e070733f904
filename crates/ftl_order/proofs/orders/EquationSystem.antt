-- Systems of equations whose chains of reads end: each has exactly one solution.
use Rattle.std.proofs.Common.{◌≡◌, ℕ, zero, suc, ◌<◌, sym, ◌∙◌, arith}

-- the value of an equation depends on what it reads alone, and what a valid equation reads is valid
pub record System (I V : Type 0) : Type 1 where
  pub Valid : I → Type 0
  pub Reads : I → I → Type 0
  pub value : (I → V) → I → V
  pub alone : (s t : I → V) (i : I) → Valid i → ((j : I) → Reads i j → s j ≡ t j) → value s i ≡ value t i
  pub inside : (i j : I) → Valid i → Reads i j → Valid j

abbrev pub Solution : {I V : Type 0} → System I V → (I → V) → Type 0
Solution {I} e s = (i : I) → e.Valid i → s i ≡ e.value s i

-- each chain of reads from i on has fewer than n reads
abbrev pub Low : {I V : Type 0} → System I V → ℕ → I → Type 0
Low e zero i = ⊥
Low {I} e (suc n) i = (j : I) → e.Reads i j → Low e n j

abbrev pub Ends : {I V : Type 0} → System I V → (I → ℕ) → Type 0
Ends {I} e number = (i : I) → e.Valid i → Low e (number i) i

agree_low : {I V : Type 0} (e : System I V) (s t : I → V) → Solution e s → Solution e t
    → (n : ℕ) (i : I) → e.Valid i → Low e n i → s i ≡ t i
agree_low e s t ss st zero i v low = absurd low
agree_low e s t ss st (suc n) i v low =
    ss i v ∙ e.alone s t i v (λ j r. agree_low e s t ss st n j (e.inside i j v r) (low j r)) ∙ sym (st i v)

pub solutions_agree : {I V : Type 0} (e : System I V) (number : I → ℕ) → Ends e number
    → (s t : I → V) → Solution e s → Solution e t → (i : I) → e.Valid i → s i ≡ t i
solutions_agree e number ends s t ss st i v = agree_low e s t ss st (number i) i v (ends i v)

-- each equation so many times, from values at the start
abbrev rounds : {I V : Type 0} (e : System I V) → (I → V) → ℕ → I → V
rounds e start zero = start
rounds e start (suc n) = e.value (rounds e start n)

-- after as many rounds as its chains of reads are long, a value stays
settled : {I V : Type 0} (e : System I V) → (start : I → V) → (m n : ℕ) (i : I) → e.Valid i → Low e m i → Low e n i
    → rounds e start m i ≡ rounds e start n i
settled e start zero n i v p q = absurd p
settled e start (suc m) zero i v p q = absurd q
settled e start (suc m) (suc n) i v p q =
    e.alone (rounds e start m) (rounds e start n) i v
    (λ j r. settled e start m n j (e.inside i j v r) (p j r) (q j r))

-- the value of each equation once it has settled
abbrev pub solution : {I V : Type 0} → System I V → (I → ℕ) → (I → V) → I → V
solution e number start i = rounds e start (number i) i

pub solution_solves : {I V : Type 0} (e : System I V) (number : I → ℕ) → Ends e number → (start : I → V)
    → Solution e (solution e number start)
solution_solves e number ends start i v = go (number i) (ends i v)
  where
    go : (n : ℕ) → Low e n i → rounds e start n i ≡ e.value (solution e number start) i
    go zero low = absurd low
    go (suc n) low =
        e.alone (rounds e start n) (solution e number start) i v
        (λ j r. settled e start n (number j) j (e.inside i j v r) (low j r) (ends j (e.inside i j v r)))

-- a number that falls along the reads bounds the chains
pub low_by_rank : {I V : Type 0} (e : System I V) (rank : I → ℕ)
    → ((i j : I) → e.Valid i → e.Reads i j → rank j < rank i)
    → (n : ℕ) (i : I) → e.Valid i → rank i < n → Low e n i
low_by_rank e rank falls zero i v below = absurd (let z : ⊥ = omega (arith, below) in z)
low_by_rank e rank falls (suc n) i v below = λ j r.
    low_by_rank e rank falls n j (e.inside i j v r) (let f = falls i j v r in omega (arith, f, below))
