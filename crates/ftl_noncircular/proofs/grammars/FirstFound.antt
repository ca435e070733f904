-- Each grammar is noncircular, or has a first circular vertex.
use Rattle.std.proofs.Common.{ℕ, ◌<◌, subst, inl, inr, ⊎_elim, arith}
use Rattle.std.specs.List.{range_with_len}
use Rattle.ftl_model.specs.layout.AttributeGrammar.{AttributeGrammar, attributes_of}
use Rattle.ftl_model.proofs.lists.Elements.{range_has}
use Rattle.ftl_order.proofs.automatic.Choices.{Decided, decided_both}
use Rattle.ftl_noncircular.specs.grammars.FirstCircular.{IsDecided, IsEarlier, IsEarlierVertex, IsFirstCircular}
use Rattle.ftl_noncircular.specs.grammars.Noncircular.{IsCircular, IsVertex, Vertex, of_child, of_self}
use Rattle.ftl_noncircular.proofs.grammars.ClosedFamilies.{closed_family}
use Rattle.ftl_noncircular.proofs.grammars.Decisions.{IsLeast, decided_as, decided_below, decided_some, least_of}
use Rattle.ftl_noncircular.proofs.grammars.EdgesDecided.{decided_circular, decided_vertex, vertex_listed, vertices}
use Rattle.ftl_noncircular.proofs.grammars.Found.{found_decides}

module _ (g : AttributeGrammar) where
  decided_is_circular : (k : ℕ) (v : Vertex) → Decided (IsCircular g k v)
  decided_is_circular k v =
      let found = closed_family g in
      let same = found_decides g found.0 found.1 found.2 k v in
      decided_as same.1 same.0 (decided_circular g found.0 k v)

  -- a vertex of the class, and circular
  abbrev IsBad : (class : ℕ) → Vertex → Type 0
  IsBad k v = IsVertex g k v × IsCircular g k v

  decided_bad : (k : ℕ) (v : Vertex) → Decided (IsBad k v)
  decided_bad k v = decided_both (decided_vertex g k v) (decided_is_circular k v)

  abbrev HasBad : (class : ℕ) → Type 0
  HasBad k = (k < g.class_count) × ((v : Vertex) × IsBad k v)

  decided_has : (k : ℕ) → Decided (HasBad k)
  decided_has k =
      decided_both (decided_below k g.class_count)
      (decided_as (λ h. (h.0, h.2)) (λ h. (h.0, vertex_listed g k h.0 h.1.0, h.1))
      (decided_some (IsBad k) (decided_bad k) (vertices g k)))

  -- a circular vertex of the kids in this child
  abbrev ChildBad : (class c : ℕ) → Type 0
  ChildBad k c = (a : ℕ) × IsBad k (of_child c a)

  decided_child : (k c : ℕ) → Decided (ChildBad k c)
  decided_child k c =
      decided_as (λ h. (h.0, h.2)) (λ h. (h.0, h.1.0.1, h.1))
      (decided_some (λ a. IsBad k (of_child c a)) (λ a. decided_bad k (of_child c a))
      (g.shared (g.child_interface k c)))

  module _ (k : ℕ) (known : k < g.class_count) (none : (j : ℕ) → j < k → HasBad j → ⊥) where
    first_own : (a : ℕ) → IsLeast (λ a. IsBad k (of_self a)) a → IsFirstCircular g k (of_self a)
    first_own a least =
        record {
          known = known;
          vertex = least.0.0;
          circular = least.0.1;
          first = λ l w inside vertex earlier circular. before l w inside (vertex, circular) earlier;
        }
      where
        here : (w : Vertex) → IsEarlierVertex w (of_self a) → IsBad k w → ⊥
        here (of_self b) less bad = least.1 b less bad
        here (of_child c b) less bad = less

        before : (l : ℕ) (w : Vertex) → l < g.class_count → IsBad l w → IsEarlier l w k (of_self a) → ⊥
        before l w inside bad earlier =
            ⊎_elim (λ less. none l less (inside, (w, bad)))
            (λ same. here w same.1 (subst (λ l. IsBad l w) same.0 bad)) earlier

    first_of_child : (c a : ℕ) → ((b : ℕ) → IsBad k (of_self b) → ⊥) → IsLeast (ChildBad k) c
        → IsLeast (λ a. IsBad k (of_child c a)) a → IsFirstCircular g k (of_child c a)
    first_of_child c a no_own child least =
        record {
          known = known;
          vertex = least.0.0;
          circular = least.0.1;
          first = λ l w inside vertex earlier circular. before l w inside (vertex, circular) earlier;
        }
      where
        here : (w : Vertex) → IsEarlierVertex w (of_child c a) → IsBad k w → ⊥
        here (of_self b) less bad = no_own b bad
        here (of_child d b) less bad =
            ⊎_elim (λ left. child.1 d left (b, bad))
            (λ same. least.1 b same.1 (subst (λ d. IsBad k (of_child d b)) same.0 bad)) less

        before : (l : ℕ) (w : Vertex) → l < g.class_count → IsBad l w → IsEarlier l w k (of_child c a) → ⊥
        before l w inside bad earlier =
            ⊎_elim (λ less. none l less (inside, (w, bad)))
            (λ same. here w same.1 (subst (λ l. IsBad l w) same.0 bad)) earlier

    in_child : ((b : ℕ) → IsBad k (of_self b) → ⊥) → (c : ℕ) → ChildBad k c
        → (v : Vertex) × IsFirstCircular g k v
    in_child no_own c bad =
        let child = least_of (ChildBad k) (decided_child k) c bad in
        let least = least_of (λ a. IsBad k (of_child child.0 a)) (λ a. decided_bad k (of_child child.0 a))
        child.1.0.0 child.1.0.1 in
        (of_child child.0 least.0, first_of_child child.0 least.0 no_own child.1 least.1)

    of_vertex : ((b : ℕ) → IsBad k (of_self b) → ⊥) → (v : Vertex) → IsBad k v → (v : Vertex) × IsFirstCircular g k v
    of_vertex no_own (of_self a) bad = absurd (no_own a bad)
    of_vertex no_own (of_child c a) bad = in_child no_own c (a, bad)

    in_class : (v : Vertex) → IsBad k v → (v : Vertex) × IsFirstCircular g k v
    in_class v bad =
        ⊎_elim
        (λ own.
        let least = least_of (λ a. IsBad k (of_self a)) (λ a. decided_bad k (of_self a)) own.0 own.2 in
        (of_self least.0, first_own least.0 least.1))
        (λ no_own. of_vertex (λ b bad. no_own (b, bad.0, bad)) v bad)
        (decided_some (λ a. IsBad k (of_self a)) (λ a. decided_bad k (of_self a)) (attributes_of g k))

  pub decides : IsDecided g
  decides =
      ⊎_elim
      (λ some.
      let class = least_of HasBad decided_has some.0 some.2 in
      let first = in_class class.0 class.1.0.0 class.1.1 class.1.0.1.0 class.1.0.1.1 in
      inr (class.0, first.0, first.1))
      (λ none. inl (λ k v known vertex circular.
      none (k, range_has 0 g.class_count k (omega arith) (omega (arith, known)), (known, (v, (vertex, circular))))))
      (decided_some HasBad decided_has (range_with_len 0 g.class_count))
