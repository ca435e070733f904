-- A search class by class, and where it ends.
use Rattle.std.proofs.Common.{◌≡◌, ◌≢◌, ℕ, ◌+◌, ◌<◌, Bool, true, false, ◌||◌, List, length, get_or, refl, sym, ◌∙◌}
use Rattle.std.proofs.Common.{subst, inl, inr, arith, Contains}
use Rattle.std.proofs.lemmas.Bool.{cases_lt, cases_eq}
use Rattle.std.proofs.lemmas.List.{get_or-set_same, get_or-set_other, length-set}
use lib.ListN.{set as set_at}
use Rattle.lane_rows.specs.Matrix.{entry}
use Rattle.ftl_model.specs.layout.AttributeGrammar.{AttributeGrammar}
use Rattle.ftl_noncircular.specs.walks.WalkTables.{WalkTable}
use Rattle.ftl_noncircular.specs.grammars.Noncircular.{Edge, IsClosed, IsThrough, Vertex, family_of, of_child, of_self}
use Rattle.ftl_noncircular.specs.declared.search.pair_list.Pair.{Pair}
use Rattle.ftl_noncircular.specs.declared.search.pair_list.PairList.{PairList}
use Rattle.ftl_noncircular.specs.declared.search.shape.Shape.{Shape}
use Rattle.ftl_noncircular.specs.search.Numbers.{number}
use Rattle.ftl_noncircular.specs.search.Searches.{AreNoted, HaveEdges}
use Rattle.ftl_noncircular.specs.search.Pairs.{AreSearched, AreSearchedTo, HasPair, IsLonger, IsPairListOf}
use Rattle.ftl_noncircular.specs.search.Pairs.{KeepsEntries, no_walks, pair_at}
use Rattle.ftl_noncircular.specs.search.Shapes.{IsShapeOf}
use Rattle.ftl_noncircular.proofs.search.SearchLaws.{ended_tell}

pub or_none : (a b : Bool) → (a || b) ≡ false → (a ≡ false) × (b ≡ false)
or_none true b e = cc
or_none false b e = (refl, e)

-- what a class shows is noted beside what those before it show
pub noted_more : (g : AttributeGrammar) (s : Shape) (list new : PairList) (classes : List WalkTable) (class : ℕ)
    (w : WalkTable)
    → w ≡ get_or classes class no_walks → IsLonger list new
    → ((k : ℕ) → k < class → AreNoted g s.places k (get_or classes k no_walks).edges list.has)
    → AreNoted g s.places class w.edges new.has
    → (k : ℕ) → k < class + 1 → AreNoted g s.places k (get_or classes k no_walks).edges new.has
noted_more g s list new classes class w is longer old here k under =
    elim (cases_lt k class) [
      | inl below ↦ λ a b port from. longer.kept a b (old k below a b port from)
      | inr above ↦
          let at : class ≡ k = omega (arith, under, above) in
          subst (λ j. AreNoted g s.places j (get_or classes j no_walks).edges new.has) at
          (subst (λ (x : WalkTable). AreNoted g s.places class x.edges new.has) is here)
    ]

-- ---- a pair is put into one class more

module _ (g : AttributeGrammar) (s : Shape) (classes : List WalkTable) (list new : PairList) (next class : ℕ)
    (w : WalkTable)
    (state : AreSearchedTo g s classes list next) (under : class < length classes)
    (searched : AreSearched g s new.has class w) (found : IsPairListOf g new) (longer : IsLonger list new)
    (kept : KeepsEntries (get_or classes class no_walks).edges w.edges) where
  abbrev now : List WalkTable
  now = set_at classes class w

  here : get_or now class no_walks ≡ w
  here = get_or-set_same classes class w no_walks under

  elsewhere : (k : ℕ) → k ≢ class → get_or now k no_walks ≡ get_or classes k no_walks
  elsewhere k other = get_or-set_other classes class k w no_walks other

  pub kept_all : (k : ℕ) → KeepsEntries (get_or classes k no_walks).edges (get_or now k no_walks).edges
  kept_all k = elim (cases_eq k class) [
    | inl same ↦
        subst (λ j. KeepsEntries (get_or classes j no_walks).edges (get_or now j no_walks).edges) (sym same)
        (subst (λ (x : WalkTable). KeepsEntries (get_or classes class no_walks).edges x.edges) (sym here) kept)
    | inr other ↦
        subst (λ (x : WalkTable). KeepsEntries (get_or classes k no_walks).edges x.edges) (sym (elsewhere k other))
        (λ a b e. e)
  ]

  pub state_more : AreSearchedTo g s now new next
  state_more = record {
    count = length-set classes class w ∙ state.count;
    each = λ k known. elim (cases_eq k class) [
      | inl same ↦
          subst (λ j. AreSearched g s new.has j (get_or now j no_walks)) (sym same)
          (subst (AreSearched g s new.has class) (sym here) searched)
      | inr other ↦
          subst (AreSearched g s new.has k) (sym (elsewhere k other))
          (record {
            walks = (state.each k known).walks;
            noted = λ a b port from. longer.kept a b ((state.each k known).noted a b port from);
          })
    ];
    found = found;
    within = omega (arith, state.within, longer.count);
    put = λ j before k known c below child same.
        let stays = longer.same j (omega (arith, before, state.within)) in
        subst
        (λ (p : Pair). entry (get_or now k no_walks).edges (number s.places (of_child c p.from))
        (number s.places (of_child c p.to)) ≡ true)
        (sym stays)
        (kept_all k _ _ (state.put j before k known c below child
        (subst (λ (p : Pair). g.child_interface k c ≡ p.interface) stays same)));
  }

  pub put_more : (p : Pair) → ((k : ℕ) → k < class → HasPair g s (get_or classes k no_walks).edges k p)
      → HasPair g s w.edges class p → (k : ℕ) → k < class + 1 → HasPair g s (get_or now k no_walks).edges k p
  put_more p old here_too k below = elim (cases_lt k class) [
    | inl less ↦ λ c low child same. kept_all k _ _ (old k less c low child same)
    | inr above ↦
        let at : class ≡ k = omega (arith, below, above) in
        subst (λ j. HasPair g s (get_or now j no_walks).edges j p) at
        (subst (λ (x : WalkTable). HasPair g s x.edges class p) (sym here) here_too)
  ]

-- a pair is put into all classes
pub state_next : (g : AttributeGrammar) (s : Shape) (classes : List WalkTable) (list : PairList) (next : ℕ) (p : Pair)
    → AreSearchedTo g s classes list next → next < length list.pairs.items → pair_at list.pairs.items next ≡ p
    → ((k : ℕ) → k < g.class_count → HasPair g s (get_or classes k no_walks).edges k p)
    → AreSearchedTo g s classes list (next + 1)
state_next g s classes list next p state within is put = record {
  count = state.count;
  each = state.each;
  found = state.found;
  within = omega (arith, within);
  put = λ j before k known. elim (cases_lt j next) [
    | inl less ↦ state.put j less k known
    | inr above ↦
        let at : next ≡ j = omega (arith, before, above) in
        subst (λ i. HasPair g s (get_or classes k no_walks).edges k (pair_at list.pairs.items i)) at
        (subst (HasPair g s (get_or classes k no_walks).edges k) (sym is) (put k known))
  ];
}

-- ---- all pairs are put

-- an interface has an attribute that no other has
pub one_interface : (g : AttributeGrammar) (s : Shape) → IsShapeOf g s → (i j a : ℕ) → i < g.interface_count
    → j < g.interface_count → Contains (g.shared i) a → Contains (g.shared j) a → i ≡ j
one_interface g s shape i j a known_i known_j in_i in_j =
    let within = shape.attributes.shared_known i a known_i in_i in
    let first = (shape.attributes.shared i a known_i within).0 in_i in
    let second = (shape.attributes.shared j a known_j within).0 in_j in
    sym first.1 ∙ second.1

module _ (g : AttributeGrammar) (s : Shape) (shape : IsShapeOf g s) (classes : List WalkTable) (list : PairList)
    (state : AreSearchedTo g s classes list (length list.pairs.items)) where
  through_put : (k : ℕ) → k < g.class_count → (c a b : ℕ) → c < g.child_count k
      → Contains (g.shared (g.child_interface k c)) a → entry list.has a b ≡ true
      → entry (get_or classes k no_walks).edges (number s.places (of_child c a)) (number s.places (of_child c b)) ≡ true
  through_put k known c a b child in_child has =
      let at = state.found.listed a b has in
      let pair = state.found.pairs at.0 at.1 in
      let p = pair_at list.pairs.items at.0 in
      let same : g.child_interface k c ≡ p.interface =
      one_interface g s shape (g.child_interface k c) p.interface a (shape.classes.children_known k c known child)
      pair.known
      in_child (subst (Contains (g.shared p.interface)) at.2 pair.from) in
      subst (λ x. entry (get_or classes k no_walks).edges (number s.places (of_child c x))
      (number s.places (of_child c b)) ≡ true)
      at.2
      (subst (λ y. entry (get_or classes k no_walks).edges (number s.places (of_child c p.from))
      (number s.places (of_child c y)) ≡ true)
      at.3 (state.put at.0 at.1 k known c child child same))

  through_have : (k : ℕ) → k < g.class_count → (v w : Vertex) → Edge g (family_of (entry list.has)) true k v w
      → IsThrough g (family_of (entry list.has)) k v w
      → entry (get_or classes k no_walks).edges (number s.places v) (number s.places w) ≡ true
  through_have k known (of_child c a) (of_child d b) edge h =
      subst (λ e. entry (get_or classes k no_walks).edges (number s.places (of_child c a))
      (number s.places (of_child e b)) ≡ true)
      h.0 (through_put k known c a b edge.0.0 edge.0.1 h.3)
  through_have k known (of_child c a) (of_self b) edge h = absurd h
  through_have k known (of_self a) w edge h = absurd h

  pub have_all : (k : ℕ) → k < g.class_count
      → HaveEdges g s.places true k (family_of (entry list.has)) (get_or classes k no_walks).edges
  have_all k known v w edge = elim edge.2 [
    | inl read ↦ (state.each k known).walks.edges.have v w edge.0 edge.1 read
    | inr through ↦ through_have k known v w edge through
  ]

  pub closed_at_end : IsClosed g (family_of (entry list.has))
  closed_at_end =
      ended_tell g s.places (λ k. (get_or classes k no_walks).edges) list.has have_all
      (λ k known. (state.each k known).noted)
