-- Over a family that is told by a test, edges and circular vertices are decided.
use Rattle.std.proofs.Common.{◌≡◌, ℕ, Bool, true, false, refl, sym, ◌∙◌, ap, subst, inl, inr, arith, List, ◌++◌, flat_map, map, Contains}
use Rattle.std.specs.List.{range_with_len}
use Rattle.std.proofs.lemmas.List.Elements.{Contains-append_left, Contains-append_right}
use Rattle.ftl_model.specs.layout.AttributeGrammar.{AttributeGrammar, Read, RuleName, attributes_of, each_read, for_child, for_self}
use Rattle.ftl_model.specs.layout.AttributeGrammar.{last_read, prev_read, self_read, single_read, this_read}
use Rattle.ftl_model.specs.layout.Solves.{rule_named}
use Rattle.ftl_model.proofs.lists.Elements.{flat_map_has, range_has}
use Rattle.ftl_model.proofs.lists.Rising.{map_has}
use Rattle.ftl_order.specs.orders.Lawful.{IsRule, class_of_rule}
use Rattle.ftl_order.specs.dependencies.DepReads.{reads_of_parts}
use Rattle.ftl_order.proofs.automatic.Choices.{Decided, decided_both}
use Rattle.ftl_noncircular.specs.grammars.Noncircular.{Edge, IsCircularIn, IsOne, IsPort, IsRead, IsThrough, IsVertex, MakesEdge}
use Rattle.ftl_noncircular.specs.grammars.Noncircular.{Vertex, family_of, of_child, of_self, target_vertex, vertex_of}
use Rattle.ftl_noncircular.specs.grammars.Walks.{Walk}
use Rattle.ftl_noncircular.proofs.grammars.Decisions.{decided_as, decided_below, decided_either, decided_equal, decided_false, decided_in}
use Rattle.ftl_noncircular.proofs.grammars.Decisions.{decided_inherited, decided_local, decided_some, decided_synthesized, decided_true}
use Rattle.ftl_noncircular.proofs.grammars.WalksDecided.{decided_walk}

-- ---- vertices

-- the vertices of a class
abbrev pub vertices : AttributeGrammar → (class : ℕ) → List Vertex
vertices g k =
    map of_self (attributes_of g k)
    ++ flat_map (λ c. map (of_child c) (g.shared (g.child_interface k c))) (range_with_len 0 (g.child_count k))

pub vertex_listed : (g : AttributeGrammar) (k : ℕ) (v : Vertex) → IsVertex g k v → Contains (vertices g k) v
vertex_listed g k (of_self a) h =
    Contains-append_left (map of_self (attributes_of g k))
    (flat_map (λ c. map (of_child c) (g.shared (g.child_interface k c))) (range_with_len 0 (g.child_count k)))
    (of_self a) (map_has of_self (attributes_of g k) a h)
vertex_listed g k (of_child c a) h =
    Contains-append_right (map of_self (attributes_of g k))
    (flat_map (λ c. map (of_child c) (g.shared (g.child_interface k c))) (range_with_len 0 (g.child_count k)))
    (of_child c a)
    (flat_map_has (λ c. map (of_child c) (g.shared (g.child_interface k c))) (range_with_len 0 (g.child_count k)) c
    (of_child c a) (range_has 0 (g.child_count k) c (omega arith) (let b = h.0 in omega (arith, b)))
    (map_has (of_child c) (g.shared (g.child_interface k c)) a h.1))

pub decided_vertex : (g : AttributeGrammar) (k : ℕ) (v : Vertex) → Decided (IsVertex g k v)
decided_vertex g k (of_self a) = decided_in (attributes_of g k) a
decided_vertex g k (of_child c a) =
    decided_both (decided_below c (g.child_count k)) (decided_in (g.shared (g.child_interface k c)) a)

self_parts : (a b : ℕ) → of_self a ≡ of_self b → a ≡ b
self_parts a b e = cc e

child_parts : (c a d b : ℕ) → of_child c a ≡ of_child d b → (c ≡ d) × (a ≡ b)
child_parts c a d b e = (cc e, cc e)

decided_same : (v w : Vertex) → Decided (v ≡ w)
decided_same (of_self a) (of_self b) = decided_as (λ e. ap of_self e) (λ e. self_parts a b e) (decided_equal a b)
decided_same (of_self a) (of_child d b) = inr (λ e. let z : ⊥ = grind (arith, e) in z)
decided_same (of_child c a) (of_self b) = inr (λ e. let z : ⊥ = grind (arith, e) in z)
decided_same (of_child c a) (of_child d b) =
    decided_as (λ e. ap (λ x. of_child x a) e.0 ∙ ap (of_child d) e.1) (λ e. child_parts c a d b e)
    (decided_both (decided_equal c d) (decided_equal a b))

-- ---- edges

-- the rule of a class for a vertex
abbrev rule_for : (class : ℕ) → Vertex → RuleName
rule_for k (of_self a) = for_self k a
rule_for k (of_child c a) = for_child k c a

rule_is : (k : ℕ) (w : RuleName) (y : Vertex) → class_of_rule w ≡ k → y ≡ target_vertex w → w ≡ rule_for k y
rule_is k (for_self l a) y same is = ap (λ k. for_self k a) same ∙ ap (rule_for k) (sym is)
rule_is k (for_child l c a) y same is = ap (λ k. for_child k c a) same ∙ ap (rule_for k) (sym is)

rule_class : (k : ℕ) (y : Vertex) → class_of_rule (rule_for k y) ≡ k
rule_class k (of_self a) = refl
rule_class k (of_child c a) = refl

rule_target : (k : ℕ) (y : Vertex) → y ≡ target_vertex (rule_for k y)
rule_target k (of_self a) = refl
rule_target k (of_child c a) = refl

decided_rule : (g : AttributeGrammar) (w : RuleName) → Decided (IsRule g w)
decided_rule g (for_self k a) =
    decided_as (λ h. (h.0, h.1.0, h.1.1)) (λ h. (h.0, (h.1, h.2)))
    (decided_both (decided_below k g.class_count)
    (decided_both (decided_in (attributes_of g k) a)
    (decided_either (decided_synthesized (g.sort a)) (decided_local (g.sort a)))))
decided_rule g (for_child k c a) =
    decided_as (λ h. (h.0, h.1.0, h.1.1.0, h.1.1.1)) (λ h. (h.0, (h.1, (h.2, h.3))))
    (decided_both (decided_below k g.class_count)
    (decided_both (decided_below c (g.child_count k))
    (decided_both (decided_in (g.shared (g.child_interface k c)) a) (decided_inherited (g.sort a)))))

decided_makes : (prevs : Bool) (r : Read) → Decided (MakesEdge prevs r)
decided_makes true r = inl tt
decided_makes false (self_read a) = inl tt
decided_makes false (single_read c a) = inl tt
decided_makes false (each_read c a) = inl tt
decided_makes false (this_read c a) = inl tt
decided_makes false (prev_read c a) = inr (λ h. h)
decided_makes false (last_read c a) = inl tt

module _ (g : AttributeGrammar) (prevs : Bool) (k : ℕ) where
  abbrev ReadsIt : Vertex → RuleName → Type 0
  ReadsIt x w =
      (r : Read) × Contains (reads_of_parts (rule_named g w).parts) r × (MakesEdge prevs r × (x ≡ vertex_of r))

  decided_read : (x y : Vertex) → Decided (IsRead g prevs k x y)
  decided_read x y =
      decided_as
      (λ h. (rule_for k y, h.0, rule_class k y, rule_target k y, (h.1.0, h.1.1, h.1.2.0, h.1.2.1)))
      (λ h.
      let same : h.0 ≡ rule_for k y = rule_is k h.0 y h.2 h.3 in
      (subst (IsRule g) same h.1, subst (ReadsIt x) same (h.4.0, h.4.1, (h.4.2, h.4.3))))
      (decided_both (decided_rule g (rule_for k y))
      (decided_some (λ r. MakesEdge prevs r × (x ≡ vertex_of r))
      (λ r. decided_both (decided_makes prevs r) (decided_same x (vertex_of r)))
      (reads_of_parts (rule_named g (rule_for k y)).parts)))

module _ (g : AttributeGrammar) (has : ℕ → ℕ → Bool) where
  decided_through : (k : ℕ) (x y : Vertex) → Decided (IsThrough g (family_of has) k x y)
  decided_through k (of_self a) y = inr (λ h. h)
  decided_through k (of_child c a) (of_self b) = inr (λ h. h)
  decided_through k (of_child c a) (of_child d b) =
      decided_as (λ h. (h.0, h.1.0, h.1.1.0, h.1.1.1)) (λ h. (h.0, (h.1, (h.2, h.3))))
      (decided_both (decided_equal c d)
      (decided_both (decided_inherited (g.sort a))
      (decided_both (decided_synthesized (g.sort b)) (decided_true (has a b)))))

  decided_edge : (prevs : Bool) (k : ℕ) (x y : Vertex) → Decided (Edge g (family_of has) prevs k x y)
  decided_edge prevs k x y =
      decided_as (λ h. (h.0, h.1.0, h.1.1)) (λ h. (h.0, (h.1, h.2)))
      (decided_both (decided_vertex g k x)
      (decided_both (decided_vertex g k y) (decided_either (decided_read g prevs k x y) (decided_through k x y))))

  pub decided_walks : (prevs : Bool) (k : ℕ) (x y : Vertex) → Decided (Walk (Edge g (family_of has) prevs k) x y)
  decided_walks prevs k =
      decided_walk (Edge g (family_of has) prevs k) (decided_edge prevs k) (vertices g k)
      (λ x y e. vertex_listed g k y e.1)

  decided_one : (k : ℕ) (v : Vertex) → Decided (IsOne g k v)
  decided_one k (of_self a) = inl tt
  decided_one k (of_child c a) = decided_false (g.is_list k c)

  pub decided_circular : (k : ℕ) (v : Vertex) → Decided (IsCircularIn g (family_of has) k v)
  decided_circular k v =
      decided_either (decided_both (decided_one k v) (decided_walks true k v v)) (decided_walks false k v v)

pub decided_port : (g : AttributeGrammar) (k a b : ℕ) → Decided (IsPort g k a b)
decided_port g k a b =
    decided_as
    (λ h. record { known = h.0; from = h.1.0; from_sort = h.1.1.0; to = h.1.1.1.0; to_sort = h.1.1.1.1 })
    (λ p. (p.known, (p.from, (p.from_sort, (p.to, p.to_sort)))))
    (decided_both (decided_below k g.class_count)
    (decided_both (decided_in (g.shared (g.interface k)) a)
    (decided_both (decided_inherited (g.sort a))
    (decided_both (decided_in (g.shared (g.interface k)) b) (decided_synthesized (g.sort b))))))
