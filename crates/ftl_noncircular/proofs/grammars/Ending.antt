-- How long chains of reads are: they end where those from each read do, and none has as many reads as there are
-- instances where no instance comes to read itself.
use Rattle.std.proofs.Common.{◌≡◌, ◌⊎◌, ℕ, zero, suc, ◌+◌, ◌<◌, ◌≤◌, refl, subst, inl, inr, ⊎_elim, arith, List, [], ◌∷◌, length, Contains}
use Rattle.ftl_model.specs.layout.AttributeGrammar.{AttributeGrammar}
use Rattle.ftl_model.specs.layout.Solves.{Instance, IsInstance}
use Rattle.ftl_model.specs.layout.Table.{instance_count, instances}
use Rattle.ftl_model.specs.layout.Tree.{Forest}
use Rattle.ftl_model.specs.layout.TreeOf.{IsTreeOf}
use Rattle.ftl_model.proofs.lists.Elements.{here_in, in_cases, later_in, nothing_in}
use Rattle.ftl_order.specs.orders.Lawful.{IsLawful}
use Rattle.ftl_order.specs.orders.Reads.{EndsWithin, Reads, reads_of}
use Rattle.ftl_order.proofs.orders.Instances.{is_listed_instance, length-instances}
use Rattle.ftl_order.proofs.orders.TreeEquations.{inside_by}
use Rattle.ftl_noncircular.specs.grammars.Walks.{Walk, WalkOf}
use Rattle.ftl_noncircular.proofs.grammars.Walking.{left_fewer, left_has, left_without, walk_last}

-- a number for each of finitely many that may grow: one for all
bound_list : {X : Type 0} (P : ℕ → X → Type 0) → ((m n : ℕ) (x : X) → m ≤ n → P m x → P n x) → (xs : List X)
    → ((x : X) → Contains xs x → (n : ℕ) × P n x) → (n : ℕ) × ((x : X) → Contains xs x → P n x)
bound_list P up [] h = (0, λ x c. absurd (nothing_in x c))
bound_list {X} P up (x ∷ xs) h =
    let first = h x (here_in x xs) in
    let rest = bound_list P up xs (λ y c. h y (later_in x y xs c)) in (
      first.0 + rest.0,
      (λ y c. ⊎_elim
          (λ same. subst (P (first.0 + rest.0)) same (up first.0 (first.0 + rest.0) x (omega arith) first.1))
          (λ later. up rest.0 (first.0 + rest.0) y (omega arith) (rest.1 y later)) (in_cases x y xs c)),
    )

module _ (g : AttributeGrammar) (t : Forest) where
  -- chains of reads from here have a greatest length
  abbrev pub Ends : Instance → Type 0
  Ends i = (n : ℕ) × EndsWithin g t n i

  ends_up : (m n : ℕ) (i : Instance) → m ≤ n → EndsWithin g t m i → EndsWithin g t n i
  ends_up zero n i h ends = absurd ends
  ends_up (suc m) zero i h ends = absurd (let z : ⊥ = omega (arith, h) in z)
  ends_up (suc m) (suc n) i h ends = λ j reads. ends_up m n j (omega (arith, h)) (ends j reads)

  -- where each chain from what is read ends, so does each from the reader
  pub ends_by : (i : Instance) → ((j : Instance) → Reads g t i j → Ends j) → Ends i
  ends_by i h =
      let b = bound_list (λ n j. EndsWithin g t n j) (λ m n j less. ends_up m n j less) (reads_of g t i) h in
      (suc b.0, λ j reads. b.1 j reads)

  ends_along : (n m : ℕ) (i j : Instance) → EndsWithin g t n i → WalkOf (Reads g t) m i j
      → (k : ℕ) × (k + m ≡ n) × EndsWithin g t k j
  ends_along n zero i j ends w = (n, (let z : n + 0 ≡ n = omega arith in z), subst (EndsWithin g t n) w ends)
  ends_along zero (suc m) i j ends w = absurd ends
  ends_along (suc n) (suc m) i j ends w =
      let r = ends_along n m w.0 j (ends w.0 w.1) w.2 in
      (r.0, (let e = r.1 in let z : r.0 + suc m ≡ suc n = omega (arith, e) in z), r.2)

  below_none : (bound n : ℕ) (i : Instance) → n < bound → EndsWithin g t n i → Walk (Reads g t) i i → ⊥
  below_none zero n i b ends w = let z : ⊥ = omega (arith, b) in z
  below_none (suc bound) n i b ends w =
      let r = ends_along n (suc w.0) i i ends w.1 in
      below_none bound r.0 i (let e = r.1 in let z : r.0 < bound = omega (arith, b, e) in z) r.2 w

  -- where the chains end, the instance does not come to read itself
  pub none_reads_itself : (i : Instance) → Ends i → Walk (Reads g t) i i → ⊥
  none_reads_itself i ends w = below_none (suc ends.0) ends.0 i (omega arith) ends.1 w

module _ (g : AttributeGrammar) (law : IsLawful g) (t : Forest) (fits : IsTreeOf g t)
    (each_ends : (i : Instance) → IsInstance g t i → Ends g t i) where
  none_back : (i : Instance) → IsInstance g t i → Walk (Reads g t) i i → ⊥
  none_back i valid w = none_reads_itself g t i (each_ends i valid) w

  read_valid : (i j : Instance) → IsInstance g t i → Reads g t i j → IsInstance g t j
  read_valid i j valid reads =
      inside_by g law t fits (g.sort i.attribute) i.node i.attribute refl valid.0 valid.1 j reads

  -- each instance that is not among the rest leads to this one
  by_count : (n : ℕ) (rest : List Instance) → length rest ≤ n → (i : Instance) → IsInstance g t i
      → ((u : Instance) → IsInstance g t u → Contains rest u ⊎ Walk (Reads g t) u i) → EndsWithin g t n i
  by_count zero rest few i valid cover =
      absurd
      (⊎_elim (λ h. let b = h.1 in let z : ⊥ = omega (arith, few, b) in z) (λ w. none_back i valid w) (cover i valid))
  by_count (suc n) rest few i valid cover =
      ⊎_elim
      (λ h j reads.
      by_count n (left_without h.0 rest) (let f = left_fewer h.0 rest h.1 in omega (arith, few, f)) j
      (read_valid i j valid reads)
      (λ u vu.
      ⊎_elim
      (λ old.
      ⊎_elim (λ same. inr (0, (j, subst (λ x. Reads g t x j) same reads, refl))) (λ still. inl still)
      (left_has h.0 rest i u h.1 h.2 old))
      (λ w. inr (suc w.0, walk_last (Reads g t) (suc w.0) u i j w.1 reads))
      (cover u vu)))
      (λ w. absurd (none_back i valid w)) (cover i valid)

  -- where each chain ends, each has fewer reads than there are instances
  pub chains_are_short : (i : Instance) → IsInstance g t i → EndsWithin g t (instance_count g t) i
  chains_are_short i valid =
      by_count (instance_count g t) (instances g t) (let e = length-instances g t in omega (arith, e)) i valid
      (λ u vu. inl (is_listed_instance g t u vu))
