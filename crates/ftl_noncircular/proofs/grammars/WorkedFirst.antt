-- The first circular vertices of three grammars.
use Rattle.std.proofs.Common.{◌≡◌, ◌⊎◌, ℕ, zero, suc, ◌<◌, ◌==◌, ◌&&◌, Bool, true, false, refl, sym, ap, ap₂, subst, subst₂, inl, inr, ⊎_elim, lit<, arith, eqb-true, [], ◌∷◌, Contains}
use Rattle.std.proofs.lemmas.Bool.{and_parts}
use Rattle.ftl_model.proofs.lists.Elements.{each_in, nothing_in}
use Rattle.ftl_model.specs.layout.AttributeGrammar.{AttributeGrammar, Read, RuleName, for_child, for_self, inherited, plain, self_read, synthesized, this_read}
use Rattle.ftl_model.specs.layout.Solves.{rule_named}
use Rattle.ftl_order.specs.dependencies.DepReads.{reads_of_parts}
use Rattle.ftl_order.specs.orders.Lawful.{IsRule, OfChild, OfClass, class_of_rule}
use Rattle.ftl_order.proofs.orders.Bounded.{each_below}
use Rattle.ftl_noncircular.specs.grammars.Walks.{WalkOf}
use Rattle.ftl_noncircular.specs.grammars.FirstCircular.{IsEarlier, IsEarlierVertex, IsFirstCircular}
use Rattle.ftl_noncircular.specs.grammars.Noncircular.{Dependence, Edge, Family, IsCircular, IsCircularIn, IsClosed, IsPort, IsRead, IsThrough, IsVertex, Vertex, family_of, of_child, of_self, target_vertex}
use Rattle.ftl_noncircular.specs.grammars.Worked.{FrameParts, by_kid, by_several, by_several_and_self, frame_sort, framed}
use Rattle.ftl_noncircular.proofs.grammars.Found.{circular_more}
use Rattle.ftl_noncircular.proofs.grammars.WorkedCircles.{Leads, by_kid_circular, kids_x, kids_y, leads_by, rule_a, rule_x, rule_y, self_a}

abbrev attribute_of : Vertex → ℕ
attribute_of (of_self a) = a
attribute_of (of_child c a) = a

abbrev child_of : Vertex → ℕ
child_of (of_self a) = 0
child_of (of_child c a) = c

-- a walk ends in an edge
last_edge : {X : Type 0} (edge : X → X → Type 0) (n : ℕ) (x y : X) → WalkOf edge (suc n) x y → (z : X) × edge z y
last_edge edge zero x y w = (x, subst (edge x) w.2 w.1)
last_edge edge (suc n) x y w = last_edge edge n w.0 y w.2

-- where no edge leads to a vertex, it is not circular
not_circular : (g : AttributeGrammar) (family : Family) (class : ℕ) (v : Vertex)
    → ((prevs : Bool) (u : Vertex) → Edge g family prevs class u v → ⊥) → IsCircularIn g family class v → ⊥
not_circular g family class v none h =
    ⊎_elim
    (λ one. let e = last_edge (Edge g family true class) one.1.0 v v one.1.1 in none true e.0 e.1)
    (λ w. let e = last_edge (Edge g family false class) w.0 v v w.1 in none false e.0 e.1) h

-- ---- a vertex of the node itself is the first of the first class

none_before : (g : AttributeGrammar) (v : Vertex) (k : ℕ) (w : Vertex) → IsEarlier k w 0 v
    → (k ≡ 0) × IsEarlierVertex w v
none_before g v k w earlier =
    ⊎_elim (λ less. absurd (let z : ⊥ = omega (arith, less) in z)) (λ same. same) earlier

nothing_before_a : (k : ℕ) (w : Vertex) → IsVertex (framed by_several_and_self) k w → k ≡ 0
    → IsEarlierVertex w (of_self 5) → ⊥
nothing_before_a k (of_self a) vertex first earlier =
    each_in (λ b. b < 5 → ⊥) (5 ∷ []) ((λ less. (let z : ⊥ = omega (arith, less) in z)), tt) a
    (subst (λ k. OfClass (framed by_several_and_self) k a) first vertex) earlier
nothing_before_a k (of_child c a) vertex first earlier = absurd earlier

pub by_several_and_self_first : IsFirstCircular (framed by_several_and_self) 0 (of_self 5)
by_several_and_self_first =
    record {
      known = lit< tt;
      vertex = self_a by_several_and_self;
      circular = inl (tt, (0, (of_self 5, a_to_a, refl)));
      first = λ k w known vertex earlier circular.
          let e = none_before (framed by_several_and_self) (of_self 5) k w earlier in
          nothing_before_a k w vertex e.0 e.1;
    }
  where
    a_to_a : Leads by_several_and_self true 0 (of_self 5) (of_self 5)
    a_to_a =
        leads_by by_several_and_self true (for_self 0 5) (self_read 5) (rule_a by_several_and_self)
        (0, lit< tt, refl) tt (self_a by_several_and_self) (self_a by_several_and_self)

-- ---- a vertex of a list, where those of the node are not circular

-- the rule of a target reads nothing
module _ (p : FrameParts) where
  abbrev Silent : RuleName → Type 0
  Silent w = (r : Read) → Contains (reads_of_parts (rule_named (framed p) w).parts) r → ⊥

  none_read : (prevs : Bool) (class : ℕ) (u v : Vertex)
      → ((w : RuleName) → class_of_rule w ≡ class → v ≡ target_vertex w → IsRule (framed p) w → Silent w)
      → IsRead (framed p) prevs class u v → ⊥
  none_read prevs class u v silent h = silent h.0 h.2 h.3 h.1 h.4.0 h.4.1

  none_to_self : (family : Family) (class : ℕ) (u : Vertex) (b : ℕ)
      → IsThrough (framed p) family class u (of_self b) → ⊥
  none_to_self family class (of_self a) b h = h
  none_to_self family class (of_child c a) b h = h

  -- Top self.a
  a_silent : p.top_a ≡ plain [] → (w : RuleName) → class_of_rule w ≡ 0 → of_self 5 ≡ target_vertex w
      → IsRule (framed p) w → Silent w
  a_silent one (for_self k a) e target rule r h =
      nothing_in r
      (subst (λ parts. Contains (reads_of_parts parts) r) one
      (subst (λ k. Contains (reads_of_parts (rule_named (framed p) (for_self k a)).parts) r) e h))
  a_silent one (for_child k c a) e target rule r h = absurd (let z : ⊥ = cc (target) in z)

  a_ends : (family : Family) → p.top_a ≡ plain [] → (prevs : Bool) (u : Vertex)
      → Edge (framed p) family prevs 0 u (of_self 5) → ⊥
  a_ends family one prevs u e =
      ⊎_elim (none_read prevs 0 u (of_self 5) (a_silent one)) (none_to_self family 0 u 5) e.2

only_self_before : (w : Vertex) → IsVertex (framed by_several) 0 w → IsEarlierVertex w (of_child 0 0)
    → IsCircular (framed by_several) 0 w → ⊥
only_self_before (of_self a) vertex earlier =
    each_in (λ a. IsCircular (framed by_several) 0 (of_self a) → ⊥) (5 ∷ []) (
      not_circular (framed by_several) (Dependence (framed by_several)) 0 (of_self 5)
          (a_ends by_several (Dependence (framed by_several)) refl),
      tt,
    ) a vertex
only_self_before (of_child c a) vertex earlier =
    absurd
    (⊎_elim (λ before. let z : ⊥ = omega (arith, before) in z)
    (λ same. let less = same.1 in let z : ⊥ = omega (arith, less) in z) earlier)

pub by_several_first : IsFirstCircular (framed by_several) 0 (of_child 0 0)
by_several_first =
    record {
      known = lit< tt;
      vertex = kids_x by_several;
      circular = inr (1, (of_child 0 1, x_to_y, (of_child 0 0, y_to_x, refl)));
      first = λ k w known vertex earlier circular.
          let e = none_before (framed by_several) (of_child 0 0) k w earlier in
          only_self_before w (subst (λ k. IsVertex (framed by_several) k w) e.0 vertex) e.1
          (subst (λ k. IsCircular (framed by_several) k w) e.0 circular);
    }
  where
    x_to_y : Leads by_several false 0 (of_child 0 0) (of_child 0 1)
    x_to_y =
        leads_by by_several false (for_child 0 0 1) (this_read 0 0) (rule_y by_several) (0, lit< tt, refl) tt
        (kids_x by_several) (kids_y by_several)

    y_to_x : Leads by_several false 0 (of_child 0 1) (of_child 0 0)
    y_to_x =
        leads_by by_several false (for_child 0 0 0) (this_read 0 1) (rule_x by_several) (0, lit< tt, refl) tt
        (kids_y by_several) (kids_x by_several)

-- ---- a vertex of a child, where those of the node and of the child before are not circular

-- from i to s alone
abbrev i_to_s : ℕ → ℕ → Bool
i_to_s a b = a == 3 && b == 4

abbrev EdgesEndAt : (class : ℕ) → Vertex → Type 0
EdgesEndAt class v = (prevs : Bool) (u : Vertex) → Edge (framed by_kid) (family_of i_to_s) prevs class u v → ⊥

-- Kid self.z
z_silent : (w : RuleName) → class_of_rule w ≡ 1 → of_self 2 ≡ target_vertex w → IsRule (framed by_kid) w
    → Silent by_kid w
z_silent (for_self k a) e target rule r h =
    nothing_in r
    (subst (λ k. Contains (reads_of_parts (rule_named (framed by_kid) (for_self k a)).parts) r) e h)
z_silent (for_child k c a) e target rule r h = absurd (let z : ⊥ = cc (target) in z)

-- Top kids.x and kids.y; no rule defines kids.z
kids_silent : (a : ℕ) → a < 3 → (w : RuleName) → class_of_rule w ≡ 0 → of_child 0 a ≡ target_vertex w
    → IsRule (framed by_kid) w → Silent by_kid w
kids_silent b less (for_self k a) e target rule r h = absurd (let z : ⊥ = cc (target) in z)
kids_silent b less (for_child k c a) e target rule r h =
    let same : b ≡ a = ap attribute_of target in
    let listed : 0 ≡ c = ap child_of target in
    each_below
    (λ a. frame_sort a ≡ inherited
    → Contains (reads_of_parts (rule_named (framed by_kid) (for_child 0 0 a)).parts) r → ⊥) 3
    ((λ sort none. (let z : ⊥ = grind (arith, sort) in z)), ((λ sort. nothing_in r), ((λ sort. nothing_in r), tt)))
    a (omega (arith, less, same)) rule.3
    (subst (λ c. Contains (reads_of_parts (rule_named (framed by_kid) (for_child 0 c a)).parts) r) (sym listed)
    (subst (λ k. Contains (reads_of_parts (rule_named (framed by_kid) (for_child k c a)).parts) r) e h))

none_to_kids : (u : Vertex) (b : ℕ) → b < 3 → IsThrough (framed by_kid) (family_of i_to_s) 0 u (of_child 0 b) → ⊥
none_to_kids (of_self a) b less h = h
none_to_kids (of_child c a) b less h =
    let is : b ≡ 4 = eqb-true b 4 (and_parts (a == 3) (b == 4) h.3).1 in
    let z : ⊥ = omega (arith, less, is) in z

z_ends : EdgesEndAt 1 (of_self 2)
z_ends prevs u e =
    ⊎_elim (none_read by_kid prevs 1 u (of_self 2) z_silent) (none_to_self by_kid (family_of i_to_s) 1 u 2) e.2

kids_end : (b : ℕ) → b < 3 → EdgesEndAt 0 (of_child 0 b)
kids_end b less prevs u e =
    ⊎_elim (none_read by_kid prevs 0 u (of_child 0 b) (kids_silent b less)) (none_to_kids u b less) e.2

-- the ports: i and s, or of a kid of the list x or y and z
abbrev Ports : (class a b : ℕ) → Type 0
Ports class a b = ((a ≡ 3) × (b ≡ 4)) ⊎ ((class ≡ 1) × (b ≡ 2))

i_and_s : (class a b : ℕ) → Contains (3 ∷ 4 ∷ []) a → frame_sort a ≡ inherited → Contains (3 ∷ 4 ∷ []) b
    → frame_sort b ≡ synthesized → Ports class a b
i_and_s class a b ha ia hb sb = inl (
  each_in (λ a. frame_sort a ≡ inherited → a ≡ 3) (3 ∷ 4 ∷ [])
      ((λ e. refl), ((λ e. absurd (let z : ⊥ = grind (arith, e) in z)), tt)) a ha ia,
  each_in (λ b. frame_sort b ≡ synthesized → b ≡ 4) (3 ∷ 4 ∷ [])
      ((λ e. absurd (let z : ⊥ = grind (arith, e) in z)), ((λ e. refl), tt)) b hb sb,
)

to_z : (b : ℕ) → Contains (0 ∷ 1 ∷ 2 ∷ []) b → frame_sort b ≡ synthesized → b ≡ 2
to_z =
    each_in (λ b. frame_sort b ≡ synthesized → b ≡ 2) (0 ∷ 1 ∷ 2 ∷ []) (
      (λ e. absurd (let z : ⊥ = grind (arith, e) in z)),
      ((λ e. absurd (let z : ⊥ = grind (arith, e) in z)), ((λ e. refl), tt)),
    )

ports : (class a b : ℕ) → IsPort (framed by_kid) class a b → Ports class a b
ports class a b port =
    each_below
    (λ k. Contains ((framed by_kid).shared ((framed by_kid).interface k)) a
    → Contains ((framed by_kid).shared ((framed by_kid).interface k)) b → Ports k a b) 4 (
      (λ ha hb. i_and_s 3 a b ha port.from_sort hb port.to_sort),
      (
        (λ ha hb. i_and_s 2 a b ha port.from_sort hb port.to_sort),
        ((λ ha hb. inr (refl, to_z b hb port.to_sort)), ((λ ha hb. absurd (nothing_in a ha)), tt)),
      ),
    ) class port.known port.from port.to

i_to_s_closed : IsClosed (framed by_kid) (family_of i_to_s)
i_to_s_closed class a b port walk =
    ⊎_elim (λ is. ap₂ i_to_s is.0 is.1)
    (λ kid.
    let e = last_edge (Edge (framed by_kid) (family_of i_to_s) true class) walk.0 (of_self a) (of_self b) walk.1 in
    absurd
    (z_ends true e.0
    (subst₂ (λ k d. Edge (framed by_kid) (family_of i_to_s) true k e.0 (of_self d)) kid.0 kid.1 e.1)))
    (ports class a b port)

earlier_ends : (w : Vertex) → IsVertex (framed by_kid) 0 w → IsEarlierVertex w (of_child 1 3) → EdgesEndAt 0 w
earlier_ends (of_self a) vertex earlier =
    each_in (λ a. EdgesEndAt 0 (of_self a)) (5 ∷ []) (a_ends by_kid (family_of i_to_s) refl, tt) a vertex
earlier_ends (of_child c a) vertex earlier =
    ⊎_elim
    (λ before.
    let first : 0 ≡ c = omega (arith, before) in
    let of : Contains (0 ∷ 1 ∷ 2 ∷ []) a =
    subst (λ c. OfChild (framed by_kid) 0 c a) (sym first) vertex.1 in
    subst (λ c. EdgesEndAt 0 (of_child c a)) first
    (kids_end a (each_in (λ a. a < 3) (0 ∷ 1 ∷ 2 ∷ []) (lit< tt, (lit< tt, (lit< tt, tt))) a of)))
    (λ same.
    let of : Contains (3 ∷ 4 ∷ []) a = subst (λ c. OfChild (framed by_kid) 0 c a) same.0 vertex.1 in
    absurd
    (each_in (λ a. a < 3 → ⊥) (3 ∷ 4 ∷ [])
    ((λ less. (let z : ⊥ = omega (arith, less) in z)), ((λ less. (let z : ⊥ = omega (arith, less) in z)), tt)) a of
    same.1))
    earlier

pub by_kid_first : IsFirstCircular (framed by_kid) 0 (of_child 1 3)
by_kid_first =
    record {
      known = by_kid_circular.known;
      vertex = by_kid_circular.vertex;
      circular = by_kid_circular.circular;
      first = λ k w known vertex earlier circular.
          let e = none_before (framed by_kid) (of_child 1 3) k w earlier in
          not_circular (framed by_kid) (family_of i_to_s) 0 w
          (earlier_ends w (subst (λ k. IsVertex (framed by_kid) k w) e.0 vertex) e.1)
          (circular_more (framed by_kid) (Dependence (framed by_kid)) (family_of i_to_s)
          (λ a b d. d i_to_s i_to_s_closed) 0 w
          (subst (λ k. IsCircular (framed by_kid) k w) e.0 circular));
    }
