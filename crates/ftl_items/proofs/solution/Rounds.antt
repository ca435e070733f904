-- After as many rounds as there are instances all values have settled.
use Rattle.std.proofs.Common.{◌≡◌, ℕ, zero, suc, ◌+◌, ◌<◌, ◌≤◌, refl, ap, subst, ⊎_elim, arith, List, [], ◌∷◌, get_or, length, Contains}
use Rattle.ftl_model.specs.lists.Lists.{AreDistinct}
use Rattle.ftl_model.proofs.lists.Elements.{in_cases, nothing_in}
use Rattle.ftl_model.specs.layout.AttributeGrammar.{AttributeGrammar}
use Rattle.ftl_model.specs.layout.Path.{top}
use Rattle.ftl_model.specs.layout.Solves.{Instance, IsInstance, Solves, instance_of}
use Rattle.ftl_model.specs.layout.Table.{instance_count, instance_number, instances}
use Rattle.ftl_model.specs.layout.Tree.{Forest}
use Rattle.ftl_model.specs.layout.TreeOf.{IsTreeOf}
use Rattle.ftl_order.specs.orders.Lawful.{IsLawful}
use Rattle.ftl_order.specs.orders.Reads.{EndsWithin, FallsAlongReads, Reads}
use Rattle.ftl_order.proofs.orders.Instances.{instance_at_number, number_within}
use Rattle.ftl_order.proofs.orders.OneList.{listed_solves, one_list_by}
use Rattle.ftl_order.proofs.orders.TreeEquations.{alone_by, inside_by, one_table_by, reads_end_by}
use Rattle.ftl_items.proofs.stage_items.Fewer.{fewer}
use Rattle.ftl_items.specs.solution.Solution.{IsOnlySolution, solution, values_after}

no_instance : Instance
no_instance = instance_of top 0

module _ (g : AttributeGrammar) (law : IsLawful g) (t : Forest) (fits : IsTreeOf g t) where
  -- what an instance reads is one
  read_inside : (i j : Instance) → IsInstance g t i → Reads g t i j → IsInstance g t j
  read_inside i j valid reads =
      inside_by g law t fits (g.sort i.attribute) i.node i.attribute refl valid.0 valid.1 j reads

  -- ---- a chain of reads is shorter than there are instances

  module _ (rank : Instance → ℕ) (falls : FallsAlongReads g t rank) where
    abbrev rank_at : ℕ → ℕ
    rank_at n = rank (get_or (instances g t) n (instance_of top 0))

    rank_of_number : (i : Instance) → IsInstance g t i → rank_at (instance_number g t i) ≡ rank i
    rank_of_number i valid =
        ap rank (instance_at_number g t i.node i.attribute (instance_of top 0) valid.0 valid.1)

    -- numbers of instances that come before one in a chain of reads
    record Passed (i : Instance) (ns : List ℕ) : Type 0 where
      pub once : AreDistinct ns
      pub known : (n : ℕ) → Contains ns n → n < instance_count g t
      pub higher : (n : ℕ) → Contains ns n → rank i < rank_at n

    one_more : (i : Instance) → IsInstance g t i → (ns : List ℕ) → Passed i ns
        → AreDistinct (instance_number g t i ∷ ns)
    one_more i valid ns h = (
      (λ again.
          let up = h.higher (instance_number g t i) again in
          let same = rank_of_number i valid in
          let z : ⊥ = omega (arith, up, same) in
          z),
      h.once,
    )

    all_known : (i : Instance) → IsInstance g t i → (ns : List ℕ) → Passed i ns → (n : ℕ)
        → Contains (instance_number g t i ∷ ns) n → n < instance_count g t
    all_known i valid ns h n there =
        ⊎_elim
        (λ same. subst (λ m. m < instance_count g t) same (number_within g t i.node i.attribute valid.0 valid.1))
        (λ later. h.known n later) (in_cases (instance_number g t i) n ns there)

    ends_within : (n : ℕ) (i : Instance) → IsInstance g t i → (ns : List ℕ) → Passed i ns
        → instance_count g t ≤ length ns + n → EndsWithin g t n i
    ends_within zero i valid ns h long =
        let few =
        fewer (instance_count g t) (instance_number g t i ∷ ns) (one_more i valid ns h) (all_known i valid ns h) in
        absurd (let z : ⊥ = omega (arith, few, long) in z)
    ends_within (suc n) i valid ns h long = λ j reads.
        let less = falls i j valid reads in
        ends_within n j (read_inside i j valid reads) (instance_number g t i ∷ ns)
        (record {
          once = one_more i valid ns h;
          known = all_known i valid ns h;
          higher = λ m there.
              ⊎_elim
              (λ same.
              let is = ap rank_at same in
              let own = rank_of_number i valid in
              let z : rank j < rank_at m = omega (arith, is, own, less) in
              z)
              (λ later. let up = h.higher m later in let z : rank j < rank_at m = omega (arith, up, less) in z)
              (in_cases (instance_number g t i) m ns there);
        })
        (omega (arith, long))

    all_end : (i : Instance) → IsInstance g t i → EndsWithin g t (instance_count g t) i
    all_end i valid =
        ends_within (instance_count g t) i valid [] (record {
          once = tt;
          known = λ n none. absurd (nothing_in n none);
          higher = λ n none. absurd (nothing_in n none);
        })
        (omega arith)

  -- ---- values that have settled

  longer : (n : ℕ) (i : Instance) → EndsWithin g t n i → EndsWithin g t (suc n) i
  longer zero i ends = absurd ends
  longer (suc n) i ends = λ j reads. longer n j (ends j reads)

  settled : (m n : ℕ) (i : Instance) → IsInstance g t i → EndsWithin g t m i → EndsWithin g t n i
      → values_after g t m i ≡ values_after g t n i
  settled zero n i valid p q = absurd p
  settled (suc m) zero i valid p q = absurd q
  settled (suc m) (suc n) i valid p q =
      alone_by g law t fits (values_after g t m) (values_after g t n) (g.sort i.attribute) i.node i.attribute refl
      valid.0 valid.1
      (λ j reads. settled m n j (read_inside i j valid reads) (p j reads) (q j reads))

  pub solution_solves_by : (rank : Instance → ℕ) → FallsAlongReads g t rank → IsOnlySolution g t (solution g t)
  unfolding solution
  solution_solves_by rank falls =
      let n = instance_count g t in
      let end = all_end rank falls in
      let table : Solves g t (values_after g t n) = λ i valid.
      settled n (suc n) i valid (end i valid) (longer n i (end i valid)) in
      let one =
      one_list_by g law t fits
      (one_table_by g law t fits (λ i. suc (rank i)) (reads_end_by g law t fits rank falls)) in
      let solves = listed_solves g law t fits (values_after g t n) table in
      record { solves = solves; only = λ others h. one.any_two_equal others (solution g t) h solves }
