-- Where walks of the steps lead from a class is its region, as a host class.
use Rattle.std.proofs.Common.{◌≡◌, ◌↔◌, ℕ, ◌+◌, ◌<◌, ◌≤◌, true, List, [], ◌∷◌, ◌++◌, length, refl, ◌∙◌}
use Rattle.std.proofs.Common.{subst, inl, inr, ⊎_elim, arith}
use Rattle.lane_rows.specs.Matrix.{IsWalk, Leads, entry}
use Rattle.ftl_model.specs.layout.AttributeGrammar.{AttributeGrammar}
use Rattle.ftl_order.specs.orders.Lawful.{IsLawful}
use Rattle.ftl_nests.specs.Region as region
use Rattle.ftl_nests.specs.Region.{HasChildOf, InRegion}
use Rattle.ftl_regions.specs.hosts.Steps.{AreRegions, AreStepsBelow, Rows, class_row}

-- a walk goes on by an entry
longer : (rows : Rows) (a : ℕ) (between : List ℕ) (m b : ℕ) → IsWalk rows a between m → entry rows m b ≡ true
    → IsWalk rows a (between ++ m ∷ []) b
longer rows a [] m b walk e = (walk, e)
longer rows a (next ∷ between) m b walk e = (walk.0, longer rows next between m b walk.1 e)

module _ (g : AttributeGrammar) (law : IsLawful g) (steps : Rows) (has : AreStepsBelow g g.class_count steps) where
  low : (class i : ℕ) → class < g.class_count → HasChildOf g class i → i < g.interface_count
  low class i known child =
      subst (λ j. j < g.interface_count) child.2 (law.children_known class child.0 known child.1)

  -- a step from a class is to a child of it
  host_step : (host i : ℕ) → entry steps (class_row g host) i ≡ true → HasChildOf g host i
  host_step host i e =
      let s = (has.are (class_row g host) i).0 e in
      ⊎_elim
      (λ is. absurd (let below = law.interfaces_known s.0 s.1 in omega (arith, is, below)))
      (λ is. let same : s.0 ≡ host = omega (arith, is) in subst (λ class. HasChildOf g class i) same s.2.1) s.2.0

  -- a step from an interface of the region is to one of it
  region_step : (host i j : ℕ) → i < g.interface_count → InRegion g host i → entry steps i j ≡ true
      → InRegion g host j
  region_step host i j below inside e =
      let s = (has.are i j).0 e in
      ⊎_elim
      (λ is. (s.0 ∷ inside.0, (s.1, s.2.1, subst (region.Leads g host inside.0) is inside.1)))
      (λ is. absurd (omega (arith, is, below))) s.2.0

  -- and to one that is known
  step_low : (i j : ℕ) → entry steps i j ≡ true → j < g.interface_count
  step_low i j e = let s = (has.are i j).0 e in low s.0 j s.1 s.2.1

  -- so is a walk
  region_walk : (host i : ℕ) (between : List ℕ) (j : ℕ) → i < g.interface_count → InRegion g host i
      → IsWalk steps i between j → InRegion g host j
  region_walk host i [] j below inside walk = region_step host i j below inside walk
  region_walk host i (next ∷ between) j below inside walk =
      region_walk host next between j (step_low i next walk.0) (region_step host i next below inside walk.0) walk.1

  host_walk : (host : ℕ) (between : List ℕ) (j : ℕ) → IsWalk steps (class_row g host) between j → InRegion g host j
  host_walk host [] j walk = ([], host_step host j walk)
  host_walk host (next ∷ between) j walk =
      region_walk host next between j (step_low (class_row g host) next walk.0) ([], host_step host next walk.0) walk.1

  -- to each interface of the region a walk leads
  way_walk : (host : ℕ) → host < g.class_count → (way : List ℕ) (i : ℕ) → region.Leads g host way i
      → Leads steps (class_row g host) i
  way_walk host known [] i child = ([], (has.are (class_row g host) i).1 (host, known, (inr refl, child)))
  way_walk host known (class ∷ way) i led =
      let before = way_walk host known way (g.interface class) led.2 in
      let step = (has.are (g.interface class) i).1 (class, led.0, (inl refl, led.1)) in
      (before.0 ++ g.interface class ∷ [], longer steps (class_row g host) before.0 (g.interface class) i before.1 step)

  -- the closed matrix tells of regions
  pub regions_are : (leads : Rows) → g.interface_count + g.class_count ≤ 2048 → length leads ≡ length steps
      → ((a b : ℕ) → (entry leads a b ≡ true) ↔ Leads steps a b) → AreRegions g leads
  regions_are leads few size closed = record {
    lawful = law;
    few = few;
    size = size ∙ has.size;
    tell = λ host i known. (
      λ e. let walk = (closed (class_row g host) i).0 e in host_walk host walk.0 i walk.1,
      λ inside. (closed (class_row g host) i).1 (way_walk host known inside.0 i inside.1),
    );
  }
