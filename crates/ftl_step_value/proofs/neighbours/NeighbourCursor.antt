-- What a cursor does to what is left.
use Rattle.std.proofs.Common.{◌≡◌, ℕ, ◌-◌, ◌<◌, ◌≤◌, List, [], ◌∷◌, drop, get_or, length, take, sym, ◌∙◌, ap, subst}
use Rattle.std.proofs.Common.{arith}
use Rattle.std.proofs.Math.Seq.{take-length}
use Rattle.ftl_model.proofs.lists.Elements.{here_in, later_in}
use Rattle.ftl_step_value.specs.neighbours.NeighbourCells.{IsNeighbour, AreNeighboursFromHere, cells_from_here}
use Rattle.ftl_step_value.specs.declared.neighbours.reads.NeighbourRead.{NeighbourRead}

-- all but the first
abbrev pub others : {A : Type 0} → List A → List A
others xs = take (length xs - 1) (drop 1 xs)

others_are : {A : Type 0} (x : A) (xs : List A) → others (x ∷ xs) ≡ xs
others_are x xs = ap (λ n. take n xs) (let z : length (x ∷ xs) - 1 ≡ length xs = omega arith in z) ∙ take-length xs

module _ (own kid before : ℕ) (each : List NeighbourRead) where
  -- the first read is there
  pub first_neighbour : (reads : List NeighbourRead) (kids : List ℕ) (d : NeighbourRead) → 1 ≤ length reads
      → AreNeighboursFromHere own kid before reads each kids → IsNeighbour own kid before (get_or reads 0 d)
  first_neighbour [] kids d some neighbours = absurd (let z : ⊥ = omega (arith, some) in z)
  first_neighbour (n ∷ reads) kids d some neighbours = neighbours.here n (here_in n reads)

  -- and so are the others
  pub other_neighbours : (reads : List NeighbourRead) (kids : List ℕ) → 1 ≤ length reads
      → AreNeighboursFromHere own kid before reads each kids → AreNeighboursFromHere own kid before (others reads) each kids
  other_neighbours [] kids some neighbours = absurd (let z : ⊥ = omega (arith, some) in z)
  other_neighbours (n ∷ reads) kids some neighbours =
      subst (λ (rs : List NeighbourRead). AreNeighboursFromHere own kid before rs each kids) (sym (others_are n reads))
      (record { here = λ m h. neighbours.here m (later_in n m reads h); later = neighbours.later })

  -- past the last read come those of the next kid
  pub kid_neighbour : (reads : List NeighbourRead) (kids : List ℕ) → 1 ≤ length kids
      → AreNeighboursFromHere own kid before reads each kids
      → AreNeighboursFromHere own (get_or kids 0 0) before each each (others kids)
  kid_neighbour reads [] some neighbours = absurd (let z : ⊥ = omega (arith, some) in z)
  kid_neighbour reads (k ∷ kids) some neighbours =
      subst (AreNeighboursFromHere own k before each each) (sym (others_are k kids))
      (record { here = neighbours.later k (here_in k kids); later = λ j h. neighbours.later j (later_in k j kids h) })

  pub kid_cells : (reads : List NeighbourRead) (kids : List ℕ) → length reads < 1 → 1 ≤ length kids
      → cells_from_here own (get_or kids 0 0) before each each (others kids)
      ≡ cells_from_here own kid before reads each kids
  kid_cells reads [] none some = absurd (let z : ⊥ = omega (arith, some) in z)
  kid_cells (n ∷ reads) (k ∷ kids) none some = absurd (let z : ⊥ = omega (arith, none) in z)
  kid_cells [] (k ∷ kids) none some = ap (cells_from_here own k before each each) (others_are k kids)
