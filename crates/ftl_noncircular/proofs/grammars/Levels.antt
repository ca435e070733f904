-- A grammar is noncircular where a level of its vertices rises along the edges. Along a read by `prev` it may stay.
use Rattle.std.proofs.Common.{◌≡◌, ℕ, zero, suc, ◌<◌, ◌≤◌, Bool, true, false, sym, ap, subst, ⊎_elim, arith, Contains}
use Rattle.ftl_model.specs.layout.AttributeGrammar.{AttributeGrammar, Read, RuleName, each_read, inherited, last_read, prev_read, self_read, single_read, synthesized, this_read}
use Rattle.ftl_model.specs.layout.Solves.{rule_named}
use Rattle.ftl_order.specs.dependencies.DepReads.{reads_of_parts}
use Rattle.ftl_order.specs.orders.Lawful.{IsRule, class_of_rule}
use Rattle.ftl_noncircular.specs.grammars.Walks.{WalkOf}
use Rattle.ftl_noncircular.specs.grammars.Noncircular.{Dependence, Edge, IsClosed, IsNoncircular, IsOne, IsPort, IsRead, IsThrough, MakesEdge, Vertex, family_of, of_child, of_self, target_vertex, vertex_of}
use Rattle.ftl_noncircular.proofs.grammars.Found.{circular_more}

module _ (g : AttributeGrammar) (level : (class : ℕ) → Vertex → ℕ) (has : ℕ → ℕ → Bool) where
  -- the level rises along what a read of this rule makes; by `prev` it may stay, where the target is not one
  abbrev pub Rises : RuleName → Read → Type 0
  Rises w (self_read a) = level (class_of_rule w) (of_self a) < level (class_of_rule w) (target_vertex w)
  Rises w (single_read c a) = level (class_of_rule w) (of_child c a) < level (class_of_rule w) (target_vertex w)
  Rises w (each_read c a) = level (class_of_rule w) (of_child c a) < level (class_of_rule w) (target_vertex w)
  Rises w (this_read c a) = level (class_of_rule w) (of_child c a) < level (class_of_rule w) (target_vertex w)
  Rises w (prev_read c a) =
      (level (class_of_rule w) (of_child c a) ≤ level (class_of_rule w) (target_vertex w))
      × (IsOne g (class_of_rule w) (target_vertex w) → ⊥)
  Rises w (last_read c a) = level (class_of_rule w) (of_child c a) < level (class_of_rule w) (target_vertex w)

  abbrev pub EachRises : RuleName → Type 0
  EachRises w = (r : Read) → Contains (reads_of_parts (rule_named g w).parts) r → Rises w r

  pub record HasLevels : Type 0 where
    pub rules : (w : RuleName) → IsRule g w → EachRises w
    pub kids : (class c a b : ℕ) → g.sort a ≡ inherited → g.sort b ≡ synthesized → has a b ≡ true
        → level class (of_child c a) < level class (of_child c b)
    pub ports : (class a b : ℕ) → IsPort g class a b → level class (of_self a) ≤ level class (of_self b)
        → has a b ≡ true

  module _ (levels : HasLevels) where
    -- ---- along a read

    never_falls : (w : RuleName) (r : Read) → Rises w r
        → level (class_of_rule w) (vertex_of r) ≤ level (class_of_rule w) (target_vertex w)
    never_falls w (self_read a) h = omega (arith, h)
    never_falls w (single_read c a) h = omega (arith, h)
    never_falls w (each_read c a) h = omega (arith, h)
    never_falls w (this_read c a) h = omega (arith, h)
    never_falls w (prev_read c a) h = h.0
    never_falls w (last_read c a) h = omega (arith, h)

    rises_but_prev : (w : RuleName) (r : Read) → Rises w r → MakesEdge false r
        → level (class_of_rule w) (vertex_of r) < level (class_of_rule w) (target_vertex w)
    rises_but_prev w (self_read a) h makes = h
    rises_but_prev w (single_read c a) h makes = h
    rises_but_prev w (each_read c a) h makes = h
    rises_but_prev w (this_read c a) h makes = h
    rises_but_prev w (prev_read c a) h makes = absurd makes
    rises_but_prev w (last_read c a) h makes = h

    rises_to_one : (w : RuleName) (r : Read) → Rises w r → IsOne g (class_of_rule w) (target_vertex w)
        → level (class_of_rule w) (vertex_of r) < level (class_of_rule w) (target_vertex w)
    rises_to_one w (self_read a) h one = h
    rises_to_one w (single_read c a) h one = h
    rises_to_one w (each_read c a) h one = h
    rises_to_one w (this_read c a) h one = h
    rises_to_one w (prev_read c a) h one = absurd (h.1 one)
    rises_to_one w (last_read c a) h one = h

    -- ---- along an edge

    through_rises : (class : ℕ) (x y : Vertex) → IsThrough g (family_of has) class x y → level class x < level class y
    through_rises class (of_child c a) (of_child d b) h =
        subst (λ e. level class (of_child c a) < level class (of_child e b)) h.0 (levels.kids class c a b h.1 h.2 h.3)
    through_rises class (of_child c a) (of_self b) h = absurd h
    through_rises class (of_self a) y h = absurd h

    -- what holds of each rule and what it reads holds of each read of a class
    of_read : (P : ℕ → Vertex → Vertex → Type 0) (prevs : Bool)
        → ((w : RuleName) (r : Read) → Rises w r → MakesEdge prevs r
        → P (class_of_rule w) (vertex_of r) (target_vertex w))
        → (class : ℕ) (x y : Vertex) → IsRead g prevs class x y → P class x y
    of_read P prevs each class x y h =
        let r = h.4.0 in
        let is = each h.0 r (levels.rules h.0 h.1 r h.4.1) h.4.2 in
        subst (λ k. P k x y) h.2
        (subst (λ z. P (class_of_rule h.0) x z) (sym h.3)
        (subst (λ z. P (class_of_rule h.0) z (target_vertex h.0)) (sym h.4.3) is))

    edge_never_falls : (class : ℕ) (x y : Vertex) → Edge g (family_of has) true class x y
        → level class x ≤ level class y
    edge_never_falls class x y e =
        ⊎_elim
        (λ r. of_read (λ k x y. level k x ≤ level k y) true (λ w r h makes. never_falls w r h) class x y r)
        (λ h. let up = through_rises class x y h in let z : level class x ≤ level class y = omega (arith, up) in z) e.2

    edge_rises : (class : ℕ) (x y : Vertex) → Edge g (family_of has) false class x y → level class x < level class y
    edge_rises class x y e =
        ⊎_elim (λ r. of_read (λ k x y. level k x < level k y) false rises_but_prev class x y r)
        (λ h. through_rises class x y h) e.2

    edge_rises_to_one : (class : ℕ) (x y : Vertex) → IsOne g class y → Edge g (family_of has) true class x y
        → level class x < level class y
    edge_rises_to_one class x y one e =
        ⊎_elim
        (λ r. of_read (λ k x y. IsOne g k y → level k x < level k y) true
        (λ w r h makes one. rises_to_one w r h one) class x y r one)
        (λ h. through_rises class x y h) e.2

    -- ---- along a walk

    walk_never_falls : (class n : ℕ) (x y : Vertex) → WalkOf (Edge g (family_of has) true class) n x y
        → level class x ≤ level class y
    walk_never_falls class zero x y w =
        let e : level class x ≡ level class y = ap (level class) w in
        let z : level class x ≤ level class y = omega (arith, e) in z
    walk_never_falls class (suc n) x y w =
        let first = edge_never_falls class x w.0 w.1 in
        let rest = walk_never_falls class n w.0 y w.2 in
        let z : level class x ≤ level class y = omega (arith, first, rest) in z

    walk_rises : (class n : ℕ) (x y : Vertex) → WalkOf (Edge g (family_of has) false class) (suc n) x y
        → level class x < level class y
    walk_rises class zero x y w = subst (λ z. level class x < level class z) w.2 (edge_rises class x w.0 w.1)
    walk_rises class (suc n) x y w =
        let first = edge_rises class x w.0 w.1 in
        let rest = walk_rises class n w.0 y w.2 in
        let z : level class x < level class y = omega (arith, first, rest) in z

    walk_rises_to_one : (class n : ℕ) (x y : Vertex) → IsOne g class y
        → WalkOf (Edge g (family_of has) true class) (suc n) x y → level class x < level class y
    walk_rises_to_one class zero x y one w =
        subst (λ z. level class x < level class z) w.2
        (edge_rises_to_one class x w.0 (subst (IsOne g class) (sym w.2) one) w.1)
    walk_rises_to_one class (suc n) x y one w =
        let first = edge_never_falls class x w.0 w.1 in
        let rest = walk_rises_to_one class n w.0 y one w.2 in
        let z : level class x < level class y = omega (arith, first, rest) in z

    closed : IsClosed g (family_of has)
    closed class a b port w =
        levels.ports class a b port (walk_never_falls class (suc w.0) (of_self a) (of_self b) w.1)

    pub noncircular_by_levels : IsNoncircular g
    noncircular_by_levels class v known vertex h =
        ⊎_elim
        (λ one. let up = walk_rises_to_one class one.1.0 v v one.0 one.1.1 in let z : ⊥ = omega (arith, up) in z)
        (λ w. let up = walk_rises class w.0 v v w.1 in let z : ⊥ = omega (arith, up) in z)
        (circular_more g (Dependence g) (family_of has)
        (λ a b d. d has closed) class v h)
