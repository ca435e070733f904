-- The matrix of a class with the edges of all pairs, and what its closed walks tell.
use Rattle.std.proofs.Common.{◌≡◌, ◌⊎◌, ◌↔◌, ℕ, suc, ◌+◌, ◌<◌, ◌||◌, ◌&&◌, not, Bool, true, false, List, length, refl}
use Rattle.std.proofs.Common.{sym, ◌∙◌, subst, inl, inr, ⊎_elim, arith, Contains}
use Rattle.std.proofs.lemmas.Bool.{and_from, and_parts, cases_lt}
use Rattle.std.proofs.lemmas.List.Elements.{Contains-append_cases, Contains-append_left, Contains-append_right}
use Rattle.lane_rows.specs.Matrix.{Leads, entry}
use Rattle.ftl_model.specs.layout.AttributeGrammar.{AttributeGrammar}
use Rattle.ftl_order.specs.orders.Lawful.{OfClass}
use Rattle.ftl_noncircular.specs.grammars.FirstCircular.{IsEarlierVertex, IsFirstCircular}
use Rattle.ftl_noncircular.specs.grammars.Noncircular.{Dependence, Edge, IsCircular, IsClosed, IsThrough, IsVertex}
use Rattle.ftl_noncircular.specs.grammars.Noncircular.{Vertex, family_of, of_child, of_self}
use Rattle.ftl_noncircular.specs.grammars.Walks.{Walk}
use Rattle.ftl_noncircular.proofs.grammars.Walking.{walk_map}
use Rattle.ftl_noncircular.specs.declared.search.pair_list.Pair.{Pair}
use Rattle.ftl_noncircular.specs.declared.search.pair_list.PairList.{PairList}
use Rattle.ftl_noncircular.specs.declared.search.shape.Shape.{Shape}
use Rattle.ftl_noncircular.specs.search.Closing.{HasNone, HoldsOfNone, IsChildCircle, IsFirstIn, IsLeast, IsOwnCircle}
use Rattle.ftl_noncircular.specs.search.Closing.{TellsWalks}
use Rattle.ftl_noncircular.specs.search.Numbers.{number}
use Rattle.ftl_noncircular.specs.search.Searches.{HasEdges, HasReads, Rows}
use Rattle.ftl_noncircular.specs.search.Pairs.{HasPair, IsPairListOf, KeepsEntries, pair_at}
use Rattle.ftl_noncircular.specs.search.Shapes.{IsOwner, IsShapeOf, owner_at}
use Rattle.ftl_noncircular.proofs.search.SearchLaws.{circles_tell}
use Rattle.ftl_noncircular.proofs.search.StateLaws.{one_interface}

-- ---- all pairs are put

module _ (g : AttributeGrammar) (s : Shape) (shape : IsShapeOf g s) (k : ℕ) (known : k < g.class_count)
    (list : PairList)
    (is_list : IsPairListOf g list) (closed : IsClosed g (family_of (entry list.has))) (edges : Rows)
    (put : (j : ℕ) → j < length list.pairs.items → HasPair g s edges k (pair_at list.pairs.items j)) where
  pair_put : (c a b : ℕ) → c < g.child_count k → Contains (g.shared (g.child_interface k c)) a → entry list.has a b
      ≡ true
      → entry edges (number s.places (of_child c a)) (number s.places (of_child c b)) ≡ true
  pair_put c a b child in_child has =
      let at = is_list.listed a b has in
      let pair = is_list.pairs at.0 at.1 in
      let p = pair_at list.pairs.items at.0 in
      let same : g.child_interface k c ≡ p.interface =
      one_interface g s shape (g.child_interface k c) p.interface a (shape.classes.children_known k c known child)
      pair.known
      in_child (subst (Contains (g.shared p.interface)) at.2 pair.from) in
      subst (λ x. entry edges (number s.places (of_child c x)) (number s.places (of_child c b)) ≡ true) at.2
      (subst (λ y. entry edges (number s.places (of_child c p.from)) (number s.places (of_child c y)) ≡ true) at.3
      (put at.0 at.1 c child child same))

  through_put : (prevs : Bool) (v w : Vertex) → Edge g (Dependence g) prevs k v w → IsThrough g (Dependence g) k v w
      → entry edges (number s.places v) (number s.places w) ≡ true
  through_put prevs (of_child c a) (of_child d b) edge h =
      subst (λ e. entry edges (number s.places (of_child c a)) (number s.places (of_child e b)) ≡ true) h.0
      (pair_put c a b edge.0.0 edge.0.1 (h.3 (entry list.has) closed))
  through_put prevs (of_child c a) (of_self b) edge h = absurd h
  through_put prevs (of_self a) w edge h = absurd h

  pub all_put : (prevs : Bool) → HasReads g s.places prevs k edges → HasEdges g s.places prevs k edges
  all_put prevs has = record {
    size = has.size;
    are = has.are;
    have = λ v w edge. elim edge.2 [
      | inl read ↦ has.have v w edge.0 edge.1 read
      | inr through ↦ through_put prevs v w edge through
    ];
  }

-- ---- whose an attribute is

module _ (g : AttributeGrammar) (s : Shape) (shape : IsShapeOf g s) (a : ℕ) (within : a < g.attribute_count) where
  pub of_class_is : (k : ℕ) → k < g.class_count → OfClass g k a
      → IsOwner true k (owner_at s a) ⊎ IsOwner false (g.interface k) (owner_at s a)
  of_class_is k known there = elim (Contains-append_cases (g.shared (g.interface k)) (g.private k) a there) [
    | inl shared ↦ inr ((shape.attributes.shared (g.interface k) a (shape.classes.interfaces_known k known) within).0
        shared)
    | inr private ↦ inl ((shape.attributes.private k a known within).0 private)
  ]

  pub of_class_has : (k : ℕ) → k < g.class_count
      → IsOwner true k (owner_at s a) ⊎ IsOwner false (g.interface k) (owner_at s a) → OfClass g k a
  of_class_has k known (inl own) =
      Contains-append_right (g.shared (g.interface k)) (g.private k) a
      ((shape.attributes.private k a known within).1 own)
  of_class_has k known (inr shared) =
      Contains-append_left (g.shared (g.interface k)) (g.private k) a
      ((shape.attributes.shared (g.interface k) a (shape.classes.interfaces_known k known) within).1 shared)

pub either_true : (a b : Bool) → (a || b) ≡ true → (a ≡ true) ⊎ (b ≡ true)
either_true true b e = inl refl
either_true false b e = inr e

pub true_either : (a b : Bool) → (a ≡ true) ⊎ (b ≡ true) → (a || b) ≡ true
true_either true b h = refl
true_either false b (inl e) = cc
true_either false b (inr e) = e

-- ---- circles

module _ (g : AttributeGrammar) (s : Shape) (shape : IsShapeOf g s) (k : ℕ) (known : k < g.class_count)
    (all without : Rows)
    (tells_all : TellsWalks g s.places true k all) (tells_without : TellsWalks g s.places false k without) where
  more_edges : (x y : Vertex) → Edge g (Dependence g) false k x y → Edge g (Dependence g) true k x y
  more_edges x y edge = (
    edge.0,
    edge.1,
    ⊎_elim (λ read. inl (read.0, read.1, read.2, read.3, (read.4.0, read.4.1, tt, read.4.3))) (λ through. inr through)
        edge.2,
  )

  with_prevs : (v : Vertex) → Walk (Edge g (Dependence g) false k) v v → Walk (Edge g (Dependence g) true k) v v
  with_prevs v walk = (
    walk.0,
    walk_map (Edge g (Dependence g) false k) (Edge g (Dependence g) true k) (λ x. x) more_edges (suc walk.0) v v walk.1,
  )

  pub own_is : (a : ℕ) → IsVertex g k (of_self a) → IsCircular g k (of_self a) → IsOwnCircle g s.places k all a
  own_is a is_v circular = (
    is_v,
    (tells_all (of_self a) is_v).1
        (⊎_elim (λ one. one.1) (λ walk. with_prevs (of_self a) walk) circular),
  )

  pub own_has : (a : ℕ) → IsOwnCircle g s.places k all a → IsCircular g k (of_self a)
  own_has a h = inl (tt, (tells_all (of_self a) h.0).0 h.1)

  pub child_is : (c a : ℕ) → IsVertex g k (of_child c a) → IsCircular g k (of_child c a)
      → IsChildCircle g s.places k c all without a
  child_is c a is_v circular = (
    is_v.1,
    ⊎_elim (λ one. inr (one.0, (tells_all (of_child c a) is_v).1 one.1))
        (λ walk. inl ((tells_without (of_child c a) is_v).1 walk)) circular,
  )

  pub child_has : (c a : ℕ) → c < g.child_count k → IsChildCircle g s.places k c all without a
      → IsCircular g k (of_child c a)
  child_has c a child h =
      ⊎_elim (λ plain. inr ((tells_without (of_child c a) (child, h.0)).0 plain))
      (λ one. inl (one.0, (tells_all (of_child c a) (child, h.0)).0 one.1)) h.1

  earlier_none : (a : ℕ) → IsLeast (IsOwnCircle g s.places k all) a → (w : Vertex) → IsVertex g k w
      → IsEarlierVertex w (of_self a) → IsCircular g k w → ⊥
  earlier_none a least (of_self b) is_w less circular = least.1 b less (own_is b is_w circular)
  earlier_none a least (of_child d b) is_w less circular = less

  pub own_first : (a : ℕ) → IsLeast (IsOwnCircle g s.places k all) a → IsFirstIn g k (of_self a)
  own_first a least = record {
    vertex = least.0.0;
    circular = own_has a least.0;
    first = earlier_none a least;
  }

  module _ (no_own : HoldsOfNone (IsOwnCircle g s.places k all)) where
    child_earlier : (c a : ℕ) → ((d : ℕ) → d < c → HoldsOfNone (IsChildCircle g s.places k d all without))
        → IsLeast (IsChildCircle g s.places k c all without) a → (w : Vertex) → IsVertex g k w
        → IsEarlierVertex w (of_child c a) → IsCircular g k w → ⊥
    child_earlier c a before least (of_self b) is_w less circular = no_own b (own_is b is_w circular)
    child_earlier c a before least (of_child d b) is_w less circular = elim less [
      | inl lower ↦ before d lower b (child_is d b is_w circular)
      | inr same ↦
          least.1 b same.1
          (subst (λ e. IsChildCircle g s.places k e all without b) same.0 (child_is d b is_w circular))
    ]

    pub child_first : (c a : ℕ) → c < g.child_count k
        → ((d : ℕ) → d < c → HoldsOfNone (IsChildCircle g s.places k d all without))
        → IsLeast (IsChildCircle g s.places k c all without) a → IsFirstIn g k (of_child c a)
    child_first c a child before least = record {
      vertex = (child, least.0.0);
      circular = child_has c a child least.0;
      first = child_earlier c a before least;
    }

    none_circular : ((d : ℕ) → d < g.child_count k → HoldsOfNone (IsChildCircle g s.places k d all without))
        → (v : Vertex) → IsVertex g k v → IsCircular g k v → ⊥
    none_circular none (of_self a) is_v circular = no_own a (own_is a is_v circular)
    none_circular none (of_child c a) is_v circular = none c is_v.0 a (child_is c a is_v circular)

    pub none_in : ((d : ℕ) → d < g.child_count k → HoldsOfNone (IsChildCircle g s.places k d all without)) → HasNone g k
    none_in none = none_circular none

-- ---- what is tested

not_true : (b : Bool) → not b ≡ true → b ≡ false
not_true true e = cc
not_true false e = refl

not_false : (b : Bool) → b ≡ false → not b ≡ true
not_false true e = cc
not_false false e = refl

pub circle_by : {C : Type 0} (many is_list w a dw da : Bool) → C → many ≡ is_list → w ≡ dw → a ≡ da
    → ((w || (not many && a)) ≡ true) ↔ (C × ((dw ≡ true) ⊎ ((is_list ≡ false) × (da ≡ true))))
circle_by many is_list w a dw da there em ew ea = (
  (λ e. (
    there,
    elim (either_true w (not many && a) e) [
      | inl p ↦ inl (sym ew ∙ p)
      | inr q ↦
          let parts = and_parts (not many) a q in
          inr (sym em ∙ not_true many parts.0, sym ea ∙ parts.1)
    ],
  )),
  (λ h.
      true_either w (not many && a)
      (⊎_elim (λ p. inl (ew ∙ p)) (λ q. inr (and_from (not many) a (not_false many (em ∙ q.0)) (ea ∙ q.1))) h.1)),
)

-- an attribute of a class has a number of the grammar
pub of_class_known : (g : AttributeGrammar) (s : Shape) → IsShapeOf g s → (k a : ℕ) → k < g.class_count → OfClass g k a
    → a < g.attribute_count
of_class_known g s shape k a known there =
    ⊎_elim (λ shared. shape.attributes.shared_known (g.interface k) a (shape.classes.interfaces_known k known) shared)
    (λ private. shape.attributes.private_known k a known private)
    (Contains-append_cases (g.shared (g.interface k)) (g.private k) a there)

-- walks that are closed tell the circles
pub tells_closed : (g : AttributeGrammar) (s : Shape) → IsShapeOf g s → (k : ℕ) → k < g.class_count → (prevs : Bool)
    → (edges closed : Rows) → HasEdges g s.places prevs k edges
    → ((a b : ℕ) → (entry closed a b ≡ true) ↔ Leads edges a b) → TellsWalks g s.places prevs k closed
tells_closed g s shape k known prevs edges closed has leads v is_v =
    let tells =
    circles_tell g s.places shape.attributes.places prevs k known
    (λ c under. shape.classes.children_known k c known under)
    edges has v is_v in
    let at = number s.places v in
    ((λ e. tells.0 ((leads at at).0 e)), (λ walk. (leads at at).1 (tells.1 walk)))

-- whose an attribute of a child's interface is
pub child_of_owner : (g : AttributeGrammar) (s : Shape) → IsShapeOf g s → (k c a : ℕ) → k < g.class_count
    → c < g.child_count k → a < g.attribute_count → (i : ℕ) → i ≡ g.child_interface k c
    → IsOwner false i (owner_at s a) ↔ Contains (g.shared (g.child_interface k c)) a
child_of_owner g s shape k c a known child within i is =
    let both = shape.attributes.shared (g.child_interface k c) a (shape.classes.children_known k c known child) within
    in (
      (λ owner. both.1 (subst (λ j. IsOwner false j (owner_at s a)) is owner)),
      (λ there. subst (λ j. IsOwner false j (owner_at s a)) (sym is) (both.0 there)),
    )

-- one pair of the list more
pub put_one_more : (g : AttributeGrammar) (s : Shape) (before now : Rows) (k : ℕ) (pairs : List Pair) (index : ℕ)
    (p : Pair)
    → p ≡ pair_at pairs index → KeepsEntries before now
    → ((j : ℕ) → j < index → HasPair g s before k (pair_at pairs j)) → HasPair g s now k p
    → (j : ℕ) → j < index + 1 → HasPair g s now k (pair_at pairs j)
put_one_more g s before now k pairs index p is kept old here j below = elim (cases_lt j index) [
  | inl less ↦ λ c low child same. kept _ _ (old j less c low child same)
  | inr above ↦
      let at : index ≡ j = omega (arith, below, above) in
      subst (λ i. HasPair g s now k (pair_at pairs i)) at (subst (HasPair g s now k) is here)
]

-- ---- class by class

pub first_of_all : (g : AttributeGrammar) (class : ℕ) (v : Vertex) → class < g.class_count
    → ((k : ℕ) → k < class → HasNone g k) → IsFirstIn g class v → IsFirstCircular g class v
first_of_all g class v known before here = record {
  known = known;
  vertex = here.vertex;
  circular = here.circular;
  first = λ k w under is_w earlier circular. elim earlier [
    | inl less ↦ before k less w is_w circular
    | inr same ↦
        here.first w (subst (λ j. IsVertex g j w) same.0 is_w) same.1 (subst (λ j. IsCircular g j w) same.0 circular)
  ];
}

pub none_more : (g : AttributeGrammar) (class : ℕ) → ((k : ℕ) → k < class → HasNone g k) → HasNone g class
    → (k : ℕ) → k < class + 1 → HasNone g k
none_more g class before here k below = elim (cases_lt k class) [
  | inl less ↦ before k less
  | inr above ↦ subst (HasNone g) (let z : class ≡ k = omega (arith, below, above) in z) here
]
