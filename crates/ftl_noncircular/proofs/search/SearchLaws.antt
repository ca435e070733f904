-- What is put and noted is sound, and where nothing is left the pairs are closed.
use Rattle.std.proofs.Common.{◌≡◌, ◌⊎◌, ◌↔◌, ℕ, zero, suc, ◌<◌, Bool, true, refl, sym, ap, subst, ◌∙◌, inl, inr, List}
use Rattle.std.proofs.Common.{[], ◌∷◌}
use Rattle.ftl_model.specs.layout.AttributeGrammar.{AttributeGrammar, Sort, inherited, synthesized}
use Rattle.lane_rows.specs.Matrix.{IsWalk, Leads, entry}
use Rattle.ftl_noncircular.specs.walks.WalkTables.{IsFrom}
use Rattle.ftl_noncircular.proofs.walks.LedRows.{leads_joined}
use Rattle.ftl_noncircular.specs.grammars.Walks.{Walk, WalkOf}
use Rattle.ftl_noncircular.specs.grammars.Noncircular.{Dependence, Edge, IsClosed, IsPort, IsVertex, Vertex}
use Rattle.ftl_noncircular.specs.grammars.Noncircular.{family_of, of_self}
use Rattle.ftl_noncircular.proofs.grammars.Found.{dependence_is_closed}
use Rattle.std.proofs.lemmas.List.Elements.{Contains-append_left}
use Rattle.ftl_noncircular.specs.search.Numbers.{ArePlaces, number}
use Rattle.ftl_noncircular.specs.search.Searches.{AreEdges, AreNoted, HasEdges, HaveEdges, Rows}
use Rattle.ftl_noncircular.proofs.search.NumberLaws.{number_once}

-- ---- a walk along edges is one along entries

module _ (g : AttributeGrammar) (places : List ℕ) (prevs : Bool) (class : ℕ) (has : ℕ → ℕ → Type 0) (edges : Rows)
    (have : HaveEdges g places prevs class has edges) where
  pub walk_leads : (n : ℕ) (v w : Vertex) → WalkOf (Edge g has prevs class) (suc n) v w
      → Leads edges (number places v) (number places w)
  walk_leads zero v w walk = ([], have v w (subst (Edge g has prevs class v) walk.2 walk.1))
  walk_leads (suc n) v w walk =
      leads_joined edges (number places v) (number places walk.0) (number places w) ([], have v walk.0 walk.1)
      (walk_leads n walk.0 w walk.2)

-- ---- a walk along entries is one along edges

module _ (g : AttributeGrammar) (places : List ℕ) (are : ArePlaces g places) (prevs : Bool) (class : ℕ)
    (known : class < g.class_count) (kids : (c : ℕ) → c < g.child_count class
    → g.child_interface class c < g.interface_count)
    (edges : Rows) (sound : AreEdges g places prevs class edges) where
  abbrev E : Vertex → Vertex → Type 0
  E = Edge g (Dependence g) prevs class

  same_vertex : (v w : Vertex) → IsVertex g class v → IsVertex g class w → number places v ≡ number places w → v ≡ w
  same_vertex v w is_v is_w e = number_once g places are class known kids v w is_v is_w e

  entry_edge : (v w : Vertex) → IsVertex g class v → IsVertex g class w
      → entry edges (number places v) (number places w) ≡ true → E v w
  entry_edge v w is_v is_w e =
      let h = sound (number places v) (number places w) e in
      subst (E v) (same_vertex h.1 w h.4.1 is_w h.3)
      (subst (λ x. E x h.1) (same_vertex h.0 v h.4.0 is_v h.2) h.4)

  pub leads_walk : (v w : Vertex) → IsVertex g class v → IsVertex g class w → (between : List ℕ)
      → IsWalk edges (number places v) between (number places w) → Walk E v w
  leads_walk v w is_v is_w [] walk = (0, (w, entry_edge v w is_v is_w walk, refl))
  leads_walk v w is_v is_w (next ∷ between) walk =
      let h = sound (number places v) next walk.0 in
      let is_next : IsVertex g class h.1 = h.4.1 in
      let rest =
      leads_walk h.1 w is_next is_w between
      (subst (λ x. IsWalk edges x between (number places w)) (sym h.3) walk.1) in
      (suc rest.0, (h.1, subst (λ x. E x h.1) (same_vertex h.0 v h.4.0 is_v h.2) h.4, rest.1))

port_vertex : (g : AttributeGrammar) (class a b : ℕ) → IsPort g class a b
    → IsVertex g class (of_self a) × IsVertex g class (of_self b)
port_vertex g class a b port = (
  Contains-append_left (g.shared (g.interface class)) (g.private class) a port.from,
  Contains-append_left (g.shared (g.interface class)) (g.private class) b port.to,
)

other_sorts : inherited ≡ synthesized → ⊥
other_sorts e = subst (λ s. test s) e tt
  where
    test : Sort → Type 0
    test inherited = Unit {0}
    test _ = ⊥

pub noted_sound : (g : AttributeGrammar) (places : List ℕ) (class : ℕ) (edges : Rows) → ArePlaces g places
    → ((c : ℕ) → c < g.child_count class → g.child_interface class c < g.interface_count)
    → AreEdges g places true class edges → (a b : ℕ) → IsPort g class a b
    → IsFrom edges (number places (of_self a)) (number places (of_self b)) → Dependence g a b
noted_sound g places class edges are kids sound a b port (inl same) =
    let ends = port_vertex g class a b port in
    let e = are.self_once class b a port.known ends.1 ends.0 same in
    absurd (other_sorts (sym port.from_sort ∙ ap g.sort (sym e) ∙ port.to_sort))
noted_sound g places class edges are kids sound a b port (inr led) =
    let ends = port_vertex g class a b port in
    dependence_is_closed g class a b port
    (leads_walk g places are true class port.known kids edges sound (of_self a) (of_self b) ends.0 ends.1 led.0 led.1)

pub put_sound : (g : AttributeGrammar) (places : List ℕ) (prevs : Bool) (class : ℕ) (edges new : Rows) (v w : Vertex)
    → AreEdges g places prevs class edges → Edge g (Dependence g) prevs class v w
    → ((x y : ℕ) → entry new x y ≡ true
    → ((x ≡ number places v) × (y ≡ number places w)) ⊎ (entry edges x y ≡ true))
    → AreEdges g places prevs class new
put_sound g places prevs class edges new v w sound edge cases x y e = elim (cases x y e) [
  | inl both ↦ (v, w, sym both.0, sym both.1, edge)
  | inr old ↦ sound x y old
]

-- where each class has the edges of all pairs that were found, and what its walks show was found
pub ended_tell : (g : AttributeGrammar) (places : List ℕ) (edges : ℕ → Rows) (found : Rows)
    → ((k : ℕ) → k < g.class_count → HaveEdges g places true k (family_of (entry found)) (edges k))
    → ((k : ℕ) → k < g.class_count → AreNoted g places k (edges k) found)
    → IsClosed g (family_of (entry found))
ended_tell g places edges found have noted class a b port walk =
    noted class port.known a b port
    (inr (walk_leads g places true class (family_of (entry found)) (edges class) (have class port.known) walk.0
    (of_self a)
    (of_self b) walk.1))

-- the entries of walks in a matrix that has just the edges
pub circles_tell : (g : AttributeGrammar) (places : List ℕ) → ArePlaces g places → (prevs : Bool) (class : ℕ)
    → class < g.class_count → ((c : ℕ) → c < g.child_count class → g.child_interface class c < g.interface_count)
    → (edges : Rows) → HasEdges g places prevs class edges → (v : Vertex) → IsVertex g class v
    → Leads edges (number places v) (number places v) ↔ Walk (Edge g (Dependence g) prevs class) v v
circles_tell g places are prevs class known kids edges has v is_v = (
  (λ led. leads_walk g places are prevs class known kids edges has.are v v is_v is_v led.0 led.1),
  (λ walk. walk_leads g places prevs class (Dependence g) edges has.have walk.0 v v walk.1),
)
