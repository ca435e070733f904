-- The numbers of a class's vertices tell them apart.
use Rattle.std.proofs.Common.{◌≡◌, ℕ, ◌+◌, ◌*◌, ◌<◌, ap, subst, ◌∙◌, arith, List, get_or}
use Rattle.ftl_model.specs.layout.AttributeGrammar.{AttributeGrammar}
use Rattle.ftl_order.specs.orders.Lawful.{OfChild}
use Rattle.ftl_noncircular.specs.grammars.Noncircular.{IsVertex, Vertex, of_child, of_self}
use Rattle.ftl_noncircular.specs.search.Numbers.{ArePlaces, number, vertex_count}

same_run : (c d m n : ℕ) → m < 64 → n < 64 → 64 * c + m ≡ 64 * d + n → c ≡ d
same_run c d m n low high e = omega (arith, low, high, e)

module _ (g : AttributeGrammar) (places : List ℕ) (are : ArePlaces g places) (k : ℕ) (known : k < g.class_count)
    (kids : (c : ℕ) → c < g.child_count k → g.child_interface k c < g.interface_count) where
  pub number_once : (v w : Vertex) → IsVertex g k v → IsVertex g k w → number places v ≡ number places w → v ≡ w
  number_once (of_self a) (of_self b) v w e = ap of_self (are.self_once k a b known v w e)
  number_once (of_self a) (of_child d b) v w e =
      let low = are.self_low k a known v in absurd (let z : ⊥ = omega (arith, low, e) in z)
  number_once (of_child c a) (of_self b) v w e =
      let low = are.self_low k b known w in absurd (let z : ⊥ = omega (arith, low, e) in z)
  number_once (of_child c a) (of_child d b) v w e =
      let low = are.child_low (g.child_interface k c) a (kids c v.0) v.1 in
      let high = are.child_low (g.child_interface k d) b (kids d w.0) w.1 in
      let all : 64 * c + get_or places a 0 ≡ 64 * d + get_or places b 0 = omega (arith, e) in
      let same : c ≡ d = same_run c d (get_or places a 0) (get_or places b 0) low high all in
      let there : OfChild g k d a = subst (λ x. OfChild g k x a) same v.1 in
      let at : get_or places a 0 ≡ get_or places b 0 = omega (arith, all, ap (λ x. 64 * x) same) in
      ap (λ x. of_child x a) same
      ∙ ap (of_child d) (are.child_once (g.child_interface k d) a b (kids d w.0) there w.1 at)

  pub number_low : (v : Vertex) → IsVertex g k v → number places v < vertex_count g k
  number_low (of_self a) v = let low = are.self_low k a known v in omega (arith, low)
  number_low (of_child c a) v =
      let low = are.child_low (g.child_interface k c) a (kids c v.0) v.1 in let under = v.0 in omega (arith, low, under)
