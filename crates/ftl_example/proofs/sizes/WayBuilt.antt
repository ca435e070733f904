-- A size that the rounds for ways give is that of a tree that has the place.
use Rattle.std.proofs.Common.{◌≡◌, ℕ, zero, suc, ◌+◌, ◌<◌, ◌≤◌, ◌==◌, true, false, if◌then◌else◌, refl, sym, subst, inl, inr, ⊎_elim, arith, Option, Some, eqb-true, eq-eqb}
use Rattle.std.proofs.lemmas.Bool.{cases_lt}
use Rattle.ftl_model.specs.layout.Tree.{Forest, size}
use Rattle.ftl_model.specs.layout.AttributeGrammar.{AttributeGrammar}
use Rattle.ftl_example.specs.sizes.Least.{plus, lesser}
use Rattle.ftl_example.specs.sizes.Reach.{others, way_size, ways, best_way, reach, HoldsPlace, HasOrHolds, Anything, IsBareNode, AreSizes}
use Rattle.ftl_example.proofs.sizes.Built.{sum_of, some_same, lesser_is, Node, Kids, put, put-forest, skip, skip-forest, no_kids, bare_fits}

module _ (g : AttributeGrammar) (P : ℕ → Forest → Type 0) (size_of start : ℕ → Option ℕ)
    (sizes : AreSizes g Anything size_of) (first : AreSizes g P start) where
  abbrev node_of : {Q : ℕ → Forest → Type 0} (i n : ℕ) → IsBareNode g Q i n → Node g i n
  node_of i n h =
      record { class = h.0; below = h.1; interface = h.2; fits = h.3; fit_below = h.4; bare = h.5; nodes = h.7 }

  -- kids that hold the place
  record Held (class n nodes : ℕ) : Type 0 where
    pub kids : Kids g class n nodes
    pub holds : HoldsPlace P kids.forest

  moved : (class n a b : ℕ) → a ≡ b → Held class n a → Held class n b
  moved class n a b e h = subst (Held class n) e h

  -- the children before the way's
  earlier : (class d n m nodes : ℕ) → n ≤ g.child_count class → n ≤ d → others g size_of class d n ≡ Some m
      → Held class n nodes → Held class 0 (m + nodes)
  earlier class d zero m nodes known le e h =
      moved class 0 nodes (m + nodes) (let s = some_same 0 m e in omega (arith, s)) h
  earlier class d (suc n) m nodes known le e h =
      (elim (n == d) as (λ t. (n == d ≡ t)
      → (if t then others g size_of class d n
      else (if g.is_list class n then others g size_of class d n
      else plus (size_of (g.child_interface class n)) (others g size_of class d n))) ≡ Some m → Held class 0 (m + nodes)) [
        | true ↦ λ same e. absurd (let q = eqb-true n d same in omega (arith, q, le))
        | false ↦ λ differ e.
            (elim (g.is_list class n) as (λ t. (g.is_list class n ≡ t)
            → (if t then others g size_of class d n
            else plus (size_of (g.child_interface class n)) (others g size_of class d n)) ≡ Some m → Held class 0 (m + nodes)) [
              | true ↦ λ list e. earlier class d n m nodes (omega (arith, known)) (omega (arith, le)) e
                  (record { kids = skip g class n nodes list h.kids; holds = subst (HoldsPlace P) (skip-forest g class n nodes list h.kids) h.holds })
              | false ↦ λ single e.
                  let s = sum_of (size_of (g.child_interface class n)) (others g size_of class d n) m e in
                  let node = node_of (g.child_interface class n) s.left (sizes (g.child_interface class n) s.left s.is_left) in
                  moved class 0 (s.right + (s.left + nodes)) (m + nodes) (let t = s.sum in omega (arith, t))
                  (earlier class d n s.right (s.left + nodes) (omega (arith, known)) (omega (arith, le)) s.is_right
                  (record {
                    kids = put g class n nodes s.left (omega (arith, known)) node h.kids;
                    holds = subst (HoldsPlace P) (put-forest g class n nodes s.left (omega (arith, known)) node h.kids) (inr (inr h.holds));
                  }))
            ]) refl e
      ]) refl e

  here : (class n nodes more : ℕ) → n < g.child_count class → IsBareNode g (HasOrHolds P) (g.child_interface class n) more
      → Kids g class (suc n) nodes → Held class n (more + nodes)
  here class n nodes more known way kids =
      record {
        kids = put g class n nodes more known (node_of (g.child_interface class n) more way) kids;
        holds = subst (HoldsPlace P) (put-forest g class n nodes more known (node_of (g.child_interface class n) more way) kids)
            (⊎_elim (λ p. inl p) (λ deeper. inr (inl deeper)) way.6);
      }

  -- the way's child and those after it
  on_way : (class d n m nodes more : ℕ) → n ≤ g.child_count class → d < n → others g size_of class d n ≡ Some m
      → IsBareNode g (HasOrHolds P) (g.child_interface class d) more → Kids g class n nodes → Held class 0 (m + (more + nodes))
  on_way class d zero m nodes more known less e way kids = absurd (omega (arith, less))
  on_way class d (suc n) m nodes more known less e way kids =
      (elim (n == d) as (λ t. (n == d ≡ t)
      → (if t then others g size_of class d n
      else (if g.is_list class n then others g size_of class d n
      else plus (size_of (g.child_interface class n)) (others g size_of class d n))) ≡ Some m
      → Held class 0 (m + (more + nodes))) [
        | true ↦ λ same e.
            let q = eqb-true n d same in
            earlier class d n m (more + nodes) (omega (arith, known)) (omega (arith, q)) e
            (here class n nodes more (omega (arith, known))
            (subst (λ c. IsBareNode g (HasOrHolds P) (g.child_interface class c) more) (sym q) way) kids)
        | false ↦ λ differ e.
            let before : d < n = ⊎_elim (λ l. l) (λ more. absurd
            (let z : n ≡ d = omega (arith, less, more) in let r : (n == d) ≡ true = eq-eqb n d z in let z : ⊥ = grind arith in z)) (cases_lt d n) in
            (elim (g.is_list class n) as (λ t. (g.is_list class n ≡ t)
            → (if t then others g size_of class d n
            else plus (size_of (g.child_interface class n)) (others g size_of class d n)) ≡ Some m
            → Held class 0 (m + (more + nodes))) [
              | true ↦ λ list e. on_way class d n m nodes more (omega (arith, known)) before e way (skip g class n nodes list kids)
              | false ↦ λ single e.
                  let s = sum_of (size_of (g.child_interface class n)) (others g size_of class d n) m e in
                  let node = node_of (g.child_interface class n) s.left (sizes (g.child_interface class n) s.left s.is_left) in
                  moved class 0 (s.right + (more + (s.left + nodes))) (m + (more + nodes)) (let t = s.sum in omega (arith, t))
                  (on_way class d n s.right (s.left + nodes) more (omega (arith, known)) before s.is_right way
                  (put g class n nodes s.left (omega (arith, known)) node kids))
            ]) refl e
      ]) refl e

  abbrev Next : (ℕ → Option ℕ) → Type 0
  Next next = (i n : ℕ) → next i ≡ Some n → IsBareNode g (HasOrHolds P) i n

  by_way : (next : ℕ → Option ℕ) → Next next → (class d n : ℕ) → class < g.class_count → d < g.child_count class
      → way_size g size_of next class d ≡ Some n → IsBareNode g (HasOrHolds P) (g.interface class) n
  by_way next nexts class d n known declared e =
      let one = sum_of (Some 1) (plus (next (g.child_interface class d)) (others g size_of class d (g.child_count class))) n e in
      let two = sum_of (next (g.child_interface class d)) (others g size_of class d (g.child_count class)) one.right one.is_right in
      let held = on_way class d (g.child_count class) two.right 0 two.left (omega arith) declared two.is_right
      (nexts (g.child_interface class d) two.left two.is_left) (no_kids g class) in
      let a = held.kids.is in let b = two.sum in let c = one.sum in let l = some_same 1 one.left one.is_left in (
        class,
        held.kids.forest,
        refl,
        bare_fits g class known held.kids.forest (λ c known single. held.kids.one c (omega arith) known single),
        held.kids.fit,
        held.kids.bare,
        inr held.holds,
        (let z : suc (size held.kids.forest) ≡ n = omega (arith, a, b, c, l) in z),
      )

  by_ways : (next : ℕ → Option ℕ) → Next next → (class most n : ℕ) → class < g.class_count → most ≤ g.child_count class
      → ways g size_of next class most ≡ Some n → IsBareNode g (HasOrHolds P) (g.interface class) n
  by_ways next nexts class zero n known le e = absurd (let z : ⊥ = grind arith in z)
  by_ways next nexts class (suc m) n known le e =
      ⊎_elim (λ old. by_ways next nexts class m n known (omega (arith, le)) old)
      (λ new. by_way next nexts class m n known (omega (arith, le)) new)
      (lesser_is (ways g size_of next class m) (way_size g size_of next class m) n e)

  by_best : (next : ℕ → Option ℕ) → Next next → (i most n : ℕ) → most ≤ g.class_count
      → best_way g size_of next i most ≡ Some n → IsBareNode g (HasOrHolds P) i n
  by_best next nexts i zero n le e = absurd (let z : ⊥ = grind arith in z)
  by_best next nexts i (suc m) n le e =
      (elim (g.interface m == i) as
      (λ t. (g.interface m == i ≡ t)
      → (if t then lesser (best_way g size_of next i m) (ways g size_of next m (g.child_count m)) else best_way g size_of next i m) ≡ Some n
      → IsBareNode g (HasOrHolds P) i n) [
        | true ↦ λ same e.
            ⊎_elim (λ old. by_best next nexts i m n (omega (arith, le)) old)
            (λ new. subst (λ i. IsBareNode g (HasOrHolds P) i n) (eqb-true (g.interface m) i same)
            (by_ways next nexts m (g.child_count m) n (omega (arith, le)) (omega arith) new))
            (lesser_is (best_way g size_of next i m) (ways g size_of next m (g.child_count m)) n e)
        | false ↦ λ same e. by_best next nexts i m n (omega (arith, le)) e
      ]) refl e

  at_place : (i n : ℕ) → IsBareNode g P i n → IsBareNode g (HasOrHolds P) i n
  at_place i n h = (h.0, h.1, h.2, h.3, h.4, h.5, inl h.6, h.7)

  pub ways_built : (k : ℕ) → AreSizes g (HasOrHolds P) (reach g size_of start k)
  ways_built zero i n e = at_place i n (first i n e)
  ways_built (suc k) i n e =
      ⊎_elim (λ here. at_place i n (first i n here))
      (λ way. by_best (reach g size_of start k) (ways_built k) i g.class_count n (omega arith) way)
      (lesser_is (start i) (best_way g size_of (reach g size_of start k) i g.class_count) n e)
