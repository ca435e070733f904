-- What is seen at one node, kid by kid: a closed walk there gives a circular vertex of its class.
use Rattle.std.proofs.Common.{◌≡◌, ◌⊎◌, ℕ, zero, suc, ◌+◌, ◌-◌, ◌<◌, ◌≤◌, Bool, true, false, refl, sym, ◌∙◌, ap, subst, inl, inr, ⊎_elim, arith, Contains}
use Rattle.ftl_model.specs.layout.AttributeGrammar.{AttributeGrammar, Occurrence, Read, each_read, for_child, for_self, inherited, kid, last_read, own, prev_read, read_occurrences, self_read, single_read, synthesized, this_read}
use Rattle.ftl_order.specs.orders.Lawful.{IsLawful, IsRule, MayReadLater, OfChild, OfClass}
use Rattle.ftl_order.specs.dependencies.DepReads.{reads_of_parts}
use Rattle.ftl_order.proofs.orders.Seen.{Seen, Sees, child_seen, self_seen}
use Rattle.ftl_order.proofs.dependencies.ReadsThere.{of_parts}
use Rattle.ftl_noncircular.specs.grammars.Walks.{Walk, WalkOf}
use Rattle.ftl_noncircular.specs.grammars.Noncircular.{Edge, Family, HasNoCircle, IsOne, IsVertex, Vertex, of_child, of_self, vertex_of}
use Rattle.ftl_noncircular.proofs.grammars.Walking.{walk_append, walk_map}

module _ (g : AttributeGrammar) (law : IsLawful g) (family : Family) (class : ℕ) (known : class < g.class_count)
    (kids : ℕ → ℕ) where
  -- what there is to see
  abbrev pub Here : Occurrence → Type 0
  Here (own a) = OfClass g class a
  Here (kid c k a) = (c < g.child_count class) × OfChild g class c a × (k < kids c)

  -- a rule of the class reads it there
  abbrev pub LocalRead : Occurrence → Occurrence → Type 0
  LocalRead x (own a) =
      IsRule g (for_self class a) × Contains (read_occurrences (g.self_rule class a).parts kids 0) x
  LocalRead x (kid c k a) =
      IsRule g (for_child class c a) × Contains (read_occurrences (g.child_rule class c a).parts kids k) x

  -- the family leads through one kid
  abbrev pub LocalThrough : Occurrence → Occurrence → Type 0
  LocalThrough (kid c j a) (kid d k b) =
      (c ≡ d) × (j ≡ k) × (g.sort a ≡ inherited) × (g.sort b ≡ synthesized) × family a b
  LocalThrough (kid c j a) (own b) = ⊥
  LocalThrough (own a) y = ⊥

  abbrev pub Local : Occurrence → Occurrence → Type 0
  Local x y = Here x × Here y × (LocalRead x y ⊎ LocalThrough x y)

  -- all kids of a list in one
  abbrev pub vertex : Occurrence → Vertex
  vertex (own a) = of_self a
  vertex (kid c k a) = of_child c a

  here_vertex : (x : Occurrence) → Here x → IsVertex g class (vertex x)
  here_vertex (own a) h = h
  here_vertex (kid c k a) h = (h.0, h.1)

  sees_vertex : (k : ℕ) (r : Read) (x : Occurrence) → Sees kids k r x → vertex x ≡ vertex_of r
  sees_vertex k (self_read a) x sees = ap vertex sees
  sees_vertex k (single_read c a) x sees = ap vertex sees
  sees_vertex k (each_read c a) x sees = ap vertex sees.2
  sees_vertex k (this_read c a) x sees = ap vertex sees
  sees_vertex k (prev_read c a) x sees = ap vertex sees.1
  sees_vertex k (last_read c a) x sees = ap vertex sees.1

  -- what a rule for a kid reads, as a read of one of its parts
  abbrev SeenFor : (c k a : ℕ) → Occurrence → Type 0
  SeenFor c k a x = Seen (g.child_rule class c a).parts kids k (MayReadLater g class c) x

  seen_for : (c k a : ℕ) (x : Occurrence) → LocalRead x (kid c k a) → SeenFor c k a x
  seen_for c k a x r = child_seen g class kids c k (g.child_rule class c a).parts (law.child_parts class c a r.0) x r.1

  local_edge : (x y : Occurrence) → Local x y → Edge g family true class (vertex x) (vertex y)
  local_edge x (own a) (vx, vy, inl r) =
      let parts = (g.self_rule class a).parts in
      let s = self_seen g class kids parts (law.self_parts class a r.0) x r.1 in (
        here_vertex x vx,
        vy,
        inl (
          for_self class a,
          r.0,
          refl,
          refl,
          (s.read, of_parts parts s.read s.part s.in_part, tt, sees_vertex 0 s.read x s.sees),
        ),
      )
  local_edge (own b) (own a) (vx, vy, inr h) = absurd h
  local_edge (kid d j b) (own a) (vx, vy, inr h) = absurd h
  local_edge x (kid c k a) (vx, vy, inl r) =
      let s = seen_for c k a x r in (
        here_vertex x vx,
        (vy.0, vy.1),
        inl (
          for_child class c a,
          r.0,
          refl,
          refl,
          (
            s.read,
            of_parts (g.child_rule class c a).parts s.read s.part s.in_part,
            tt,
            sees_vertex k s.read x s.sees,
          ),
        ),
      )
  local_edge (own b) (kid c k a) (vx, vy, inr h) = absurd h
  local_edge (kid d j b) (kid c k a) (vx, vy, inr h) = ((vx.0, vx.1), (vy.0, vy.1), inr (h.0, h.2, h.3, h.4))

  pub local_walk : (n : ℕ) (x y : Occurrence) → WalkOf Local n x y
      → WalkOf (Edge g family true class) n (vertex x) (vertex y)
  local_walk n x y w = walk_map Local (Edge g family true class) vertex local_edge n x y w

  -- a walk comes by a vertex that is of the node or of a single child
  abbrev Passes : ℕ → Occurrence → Occurrence → Type 0
  Passes n x y =
      (w : Vertex) × (m : ℕ) × (l : ℕ) × (m + l ≡ n) × IsVertex g class w × IsOne g class w
      × WalkOf (Edge g family true class) m (vertex x) w × WalkOf (Edge g family true class) l w (vertex y)

  -- or stays among the kids of one list, comes never to an earlier kid, and has no `prev` where it stays at one
  abbrev Among : ℕ → Occurrence → Occurrence → Type 0
  Among n (kid c j a) (kid d k b) =
      (c ≡ d) × (g.is_list class c ≡ true) × (j ≤ k)
      × (j ≡ k → WalkOf (Edge g family false class) n (of_child c a) (of_child d b))
  Among n (kid c j a) (own b) = ⊥
  Among n (own a) y = ⊥

  start : (x : Occurrence) → Here x → Passes 0 x x ⊎ Among 0 x x
  start (own a) h = inl (of_self a, 0, 0, (let z : 0 + 0 ≡ 0 = omega arith in z), h, tt, refl, refl)
  start (kid c k a) h = go (g.is_list class c) refl
    where
      go : (b : Bool) → g.is_list class c ≡ b → Passes 0 (kid c k a) (kid c k a) ⊎ Among 0 (kid c k a) (kid c k a)
      go false e = inl (of_child c a, 0, 0, (let z : 0 + 0 ≡ 0 = omega arith in z), (h.0, h.1), e, refl, refl)
      go true e = inr (refl, e, (let z : k ≤ k = omega arith in z), λ same. refl)

  at_one : (n : ℕ) (x y : Occurrence) → Here x → IsOne g class (vertex x) → WalkOf Local n x y → Passes n x y
  at_one n x y h one w =
      (vertex x, 0, n, (let z : 0 + n ≡ n = omega arith in z), here_vertex x h, one, refl, local_walk n x y w)

  by_read : (n : ℕ) (c j a d k b : ℕ) (x : Occurrence) → Here x → Here (kid c j a) → IsRule g (for_child class c a)
      → WalkOf Local (suc n) x (kid d k b)
      → (r : Read) → Contains (reads_of_parts (g.child_rule class c a).parts) r → MayReadLater g class c r
      → Sees kids j r x → Among n (kid c j a) (kid d k b)
      → Passes (suc n) x (kid d k b) ⊎ Among (suc n) x (kid d k b)
  by_read n c j a d k b x hx hz rule walk (self_read e) has may sees among =
      inl (at_one (suc n) x (kid d k b) hx (subst (λ y. IsOne g class (vertex y)) (sym sees) tt) walk)
  by_read n c j a d k b x hx hz rule walk (single_read e f) has may sees among =
      inl (at_one (suc n) x (kid d k b) hx (subst (λ y. IsOne g class (vertex y)) (sym sees) may.0.1) walk)
  by_read n c j a d k b x hx hz rule walk (each_read e f) has may sees among = absurd may
  by_read n c j a d k b x hx hz rule walk (this_read e f) has may sees among =
      let is : x ≡ kid c j f = sees ∙ ap (λ y. kid y j f) may.0 in
      inr (subst (λ y. Among (suc n) y (kid d k b)) (sym is) (
        among.0,
        among.1,
        among.2,
        (λ same. (
          of_child c a,
          (
            here_vertex (kid c j f) (subst Here is hx),
            (hz.0, hz.1),
            inl (
              for_child class c a,
              rule,
              refl,
              refl,
              (this_read e f, has, tt, ap (λ y. of_child y f) (sym may.0)),
            ),
          ),
          among.3 same,
        )),
      ))
  by_read n c j a d k b x hx hz rule walk (prev_read e f) has may sees among =
      let is : x ≡ kid c (j - 1) f = sees.1 ∙ ap (λ y. kid y (j - 1) f) may.0 in
      let less = sees.0 in
      let up = among.2 in
      inr (subst (λ y. Among (suc n) y (kid d k b)) (sym is) (
        among.0,
        among.1,
        (let z : j - 1 ≤ k = omega (arith, less, up) in z),
        (λ same. absurd (let z : ⊥ = omega (arith, less, up, same) in z)),
      ))
  by_read n c j a d k b x hx hz rule walk (last_read e f) has may sees among =
      absurd (let y = may.0.1 in let x = among.1 in let z : ⊥ = cc (x, y) in z)

  by_through : (n : ℕ) (c j a d k b : ℕ) (x : Occurrence) → Here x → Here (kid c j a) → LocalThrough x (kid c j a)
      → Among n (kid c j a) (kid d k b) → Among (suc n) x (kid d k b)
  by_through n c j a d k b (own e) hx hz h among = absurd h
  by_through n c j a d k b (kid e i f) hx hz h among =
      let same_kid = h.1 in
      let up = among.2 in (
        h.0 ∙ among.0,
        ap (λ y. g.is_list class y) h.0 ∙ among.1,
        (let z : i ≤ k = omega (arith, same_kid, up) in z),
        (λ same. (of_child c a, ((hx.0, hx.1), (hz.0, hz.1), inr (h.0, h.2, h.3, h.4)), among.3 (sym same_kid ∙ same))),
      )

  before : (n : ℕ) (x z y : Occurrence) → Local x z → WalkOf Local n z y → Among n z y
      → Passes (suc n) x y ⊎ Among (suc n) x y
  before n x (own a) y edge walk among = absurd among
  before n x (kid c j a) (own b) edge walk among = absurd among
  before n x (kid c j a) (kid d k b) edge walk among =
      ⊎_elim
      (λ r.
      let s = seen_for c j a x r in
      by_read n c j a d k b x edge.0 edge.1 r.0 (kid c j a, edge, walk) s.read
      (of_parts (g.child_rule class c a).parts s.read s.part s.in_part) s.may s.sees among)
      (λ h. inr (by_through n c j a d k b x edge.0 edge.1 h among)) edge.2

  walk_cases : (n : ℕ) (x y : Occurrence) → Here y → WalkOf Local n x y → Passes n x y ⊎ Among n x y
  walk_cases zero x y h w = subst (λ z. Passes 0 z y ⊎ Among 0 z y) (sym w) (start y h)
  walk_cases (suc n) x y h w =
      ⊎_elim
      (λ p. inl (
        p.0,
        suc p.1,
        p.2,
        (let e = p.3 in let z : suc p.1 + p.2 ≡ suc n = omega (arith, e) in z),
        p.4,
        p.5,
        (vertex w.0, local_edge x w.0 w.1, p.6),
        p.7,
      ))
      (λ among. before n x w.0 y w.1 w.2 among) (walk_cases n w.0 y h w.2)

  -- nothing that is seen at a node depends on itself there
  pub none_back : HasNoCircle g family → (x : Occurrence) → Here x → Walk Local x x → ⊥
  none_back no_circle x h w = ⊎_elim (λ p. passing x p) (λ among. staying x h among) (walk_cases (suc w.0) x x h w.1)
    where
      passing : (x : Occurrence) → Passes (suc w.0) x x → ⊥
      passing x p =
          no_circle class p.0 known p.4
          (inl (
            p.5,
            (
              w.0,
              walk_append (Edge g family true class) p.2 p.1 (suc w.0)
                  (let e = p.3 in let z : p.2 + p.1 ≡ suc w.0 = omega (arith, e) in z) p.0 (vertex x) p.0 p.7 p.6,
            ),
          ))

      staying : (x : Occurrence) → Here x → Among (suc w.0) x x → ⊥
      staying (own a) h among = absurd among
      staying (kid c k a) h among = no_circle class (of_child c a) known (h.0, h.1) (inr (w.0, among.3 refl))
