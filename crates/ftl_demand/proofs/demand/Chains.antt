-- Chains of reads: they are short, and have no instance twice.
use Rattle.std.proofs.Common.{ℕ, zero, suc, ◌<◌, ◌≤◌, List, [], ◌∷◌, ◌++◌, length, sym, subst, inl, inr, arith, Contains}
use Rattle.ftl_model.proofs.lists.Elements.{here_in, in_cases, later_in, nothing_in}
use Rattle.ftl_model.specs.layout.AttributeGrammar.{AttributeGrammar}
use Rattle.ftl_model.specs.layout.Solves.{Instance}
use Rattle.ftl_model.specs.layout.Tree.{Forest}
use Rattle.ftl_order.specs.orders.Reads.{EndsWithin, Reads}

module _ (g : AttributeGrammar) (t : Forest) where
  -- each is read by the one before it
  abbrev pub IsChainFrom : Instance → List Instance → Type 0
  IsChainFrom x [] = Unit {0}
  IsChainFrom x (y ∷ ys) = Reads g t x y × IsChainFrom y ys

  abbrev pub IsChain : List Instance → Type 0
  IsChain [] = Unit {0}
  IsChain (x ∷ xs) = IsChainFrom x xs

  from_short : (n : ℕ) (x : Instance) (ys : List Instance) → EndsWithin g t n x → IsChainFrom x ys → length ys < n
  from_short zero x ys ends chain = absurd ends
  from_short (suc n) x [] ends chain = omega arith
  from_short (suc n) x (y ∷ ys) ends chain =
      let rest = from_short n y ys (ends y chain.0) chain.1 in omega (arith, rest)

  pub chain_short : (n : ℕ) (xs : List Instance) → ((c : Instance) → Contains xs c → EndsWithin g t n c) → IsChain xs
      → length xs ≤ n
  chain_short n [] ends chain = omega arith
  chain_short n (x ∷ xs) ends chain =
      let rest = from_short n x xs (ends x (here_in x xs)) chain in omega (arith, rest)

  -- one more at the end
  from_longer : (x : Instance) (ys : List Instance) (y z : Instance) → IsChainFrom x (ys ++ y ∷ []) → Reads g t y z
      → IsChainFrom x ((ys ++ y ∷ []) ++ z ∷ [])
  from_longer x [] y z chain read = (chain.0, (read, tt))
  from_longer x (w ∷ ys) y z chain read = (chain.0, from_longer w ys y z chain.1 read)

  pub chain_longer : (xs : List Instance) (y z : Instance) → IsChain (xs ++ y ∷ []) → Reads g t y z
      → IsChain ((xs ++ y ∷ []) ++ z ∷ [])
  chain_longer [] y z chain read = (read, tt)
  chain_longer (x ∷ xs) y z chain read = from_longer x xs y z chain read

  -- one less
  from_shorter : (x : Instance) (ys : List Instance) (z : Instance) → IsChainFrom x (ys ++ z ∷ []) → IsChainFrom x ys
  from_shorter x [] z chain = tt
  from_shorter x (w ∷ ys) z chain = (chain.0, from_shorter w ys z chain.1)

  pub chain_shorter : (xs : List Instance) (z : Instance) → IsChain (xs ++ z ∷ []) → IsChain xs
  chain_shorter [] z chain = tt
  chain_shorter (x ∷ xs) z chain = from_shorter x xs z chain

  -- a chain leads down from its first to its last
  down : (n : ℕ) (x : Instance) (ys : List Instance) (z : Instance) → EndsWithin g t n x → IsChainFrom x (ys ++ z ∷ [])
      → (m : ℕ) × (m < n) × EndsWithin g t m z
  down zero x ys z ends chain = absurd ends
  down (suc n) x [] z ends chain = (n, (let q : n < suc n = omega arith in q), ends z chain.0)
  down (suc n) x (y ∷ ys) z ends chain =
      let rest = down n y ys z (ends y chain.0) chain.1 in
      let below = rest.1 in
      (rest.0, (let q : rest.0 < suc n = omega (arith, below) in q), rest.2)

  -- it does not come back
  no_way_back : (fuel n : ℕ) (x : Instance) (ys : List Instance) → n ≤ fuel → EndsWithin g t n x
      → IsChainFrom x (ys ++ x ∷ []) → ⊥
  no_way_back zero zero x ys few ends chain = absurd ends
  no_way_back zero (suc n) x ys few ends chain = let q : ⊥ = omega (arith, few) in q
  no_way_back (suc fuel) n x ys few ends chain =
      let lower = down n x ys x ends chain in
      let below = lower.1 in
      no_way_back fuel lower.0 x ys (omega (arith, below, few)) lower.2 chain

  from_once : (n : ℕ) (x : Instance) (ys : List Instance) (z : Instance)
      → ((c : Instance) → Contains (x ∷ ys) c → EndsWithin g t n c)
      → IsChainFrom x (ys ++ z ∷ []) → Contains (x ∷ ys) z → ⊥
  from_once n x [] z ends chain there = elim (in_cases x z [] there) [
    | inl same ↦
        no_way_back n n x [] (omega arith) (ends x (here_in x []))
        (subst (λ w. IsChainFrom x (w ∷ [])) (sym same) chain)
    | inr none ↦ nothing_in z none
  ]
  from_once n x (y ∷ ys) z ends chain there = elim (in_cases x z (y ∷ ys) there) [
    | inl same ↦
        no_way_back n n x (y ∷ ys) (omega arith) (ends x (here_in x (y ∷ ys)))
        (subst (λ w. IsChainFrom x ((y ∷ ys) ++ w ∷ [])) (sym same) chain)
    | inr later ↦ from_once n y ys z (λ c h. ends c (later_in x c (y ∷ ys) h)) chain.1 later
  ]

  pub chain_once : (n : ℕ) (xs : List Instance) (z : Instance)
      → ((c : Instance) → Contains xs c → EndsWithin g t n c) → IsChain (xs ++ z ∷ []) → Contains xs z → ⊥
  chain_once n [] z ends chain there = nothing_in z there
  chain_once n (x ∷ xs) z ends chain there = from_once n x xs z ends chain there
