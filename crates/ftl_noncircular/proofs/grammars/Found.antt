-- The least family is closed, and a family that was found tells what it tells.
use Rattle.std.proofs.Common.{◌↔◌, ℕ, suc, Bool, true, false, inl, inr, ⊎_elim}
use Rattle.ftl_model.specs.layout.AttributeGrammar.{AttributeGrammar}
use Rattle.ftl_noncircular.specs.grammars.Walks.{Walk}
use Rattle.ftl_noncircular.specs.grammars.Noncircular.{Dependence, Edge, Family, IsCircular, IsCircularIn, IsClosed, IsThrough, Vertex, family_of, of_child, of_self}
use Rattle.ftl_noncircular.specs.grammars.NoncircularLaws.{IsSound}
use Rattle.ftl_noncircular.proofs.grammars.Walking.{walk_map}

module _ (g : AttributeGrammar) (small large : Family)
    (more : (a b : ℕ) → small a b → large a b) where
  pub through_more : (class : ℕ) (x y : Vertex) → IsThrough g small class x y → IsThrough g large class x y
  through_more class (of_child c a) (of_child d b) h = (h.0, h.1, h.2, more a b h.3)
  through_more class (of_child c a) (of_self b) h = h
  through_more class (of_self a) y h = h

  pub edge_more : (prevs : Bool) (class : ℕ) (x y : Vertex) → Edge g small prevs class x y
      → Edge g large prevs class x y
  edge_more prevs class x y e = (e.0, e.1, ⊎_elim (λ r. inl r) (λ h. inr (through_more class x y h)) e.2)

  pub walk_more : (prevs : Bool) (class : ℕ) (x y : Vertex) → Walk (Edge g small prevs class) x y
      → Walk (Edge g large prevs class) x y
  walk_more prevs class x y w =
      let of = walk_map (Edge g small prevs class) (Edge g large prevs class) (λ v. v) (edge_more prevs class) in
      (w.0, of (suc w.0) x y w.1)

  pub circular_more : (class : ℕ) (v : Vertex) → IsCircularIn g small class v → IsCircularIn g large class v
  circular_more class v h =
      ⊎_elim (λ one. inl (one.0, walk_more true class v v one.1)) (λ w. inr (walk_more false class v v w)) h

pub dependence_is_closed : (g : AttributeGrammar) → IsClosed g (Dependence g)
dependence_is_closed g class a b port walk has is =
    is class a b port
    (walk_more g (Dependence g) (family_of has) (λ c d dep. dep has is) true class (of_self a) (of_self b) walk)

pub found_decides : (g : AttributeGrammar) (has : ℕ → ℕ → Bool) → IsSound g has → IsClosed g (family_of has)
    → (class : ℕ) (v : Vertex) → IsCircular g class v ↔ IsCircularIn g (family_of has) class v
found_decides g has sound closed class v = (
  (λ h. circular_more g (Dependence g) (family_of has) (λ a b d. d has closed) class v h),
  (λ h. circular_more g (family_of has) (Dependence g) sound class v h),
)
