-- A later kid of a node stands behind the whole tree of an earlier one.
use Rattle.std.proofs.Common.{◌≡◌, ◌⊎◌, ℕ, zero, suc, ◌+◌, ◌<◌, ◌≤◌, ◌==◌, Bool, true, false, if◌then◌else◌, refl, sym, ◌∙◌, ap, subst, arith, eqb-true, ne_eqb, ⊎_elim}
use Rattle.std.proofs.lemmas.Bool.{cases_lt}
use Rattle.ftl_model.specs.layout.AttributeGrammar.{AttributeGrammar}
use Rattle.ftl_model.specs.layout.Path.{Has, Path, at, class_at, down, number_of, size_at}
use Rattle.ftl_model.specs.layout.Tree.{Forest, IsTree, below_of, from_kid, nodes_before, none, size, tree}
use Rattle.ftl_model.specs.layout.TreeOf.{FitBelow, IsTreeOf, StartsFrom}
use Rattle.ftl_model.proofs.layout.Kids.{from_kid-next, from_kid-other, nodes_before-here, nodes_before-next, nodes_before-other}
use Rattle.ftl_model.proofs.layout.Fits.{fits_at}
use Rattle.ftl_model.proofs.layout.Standing.{has_parent}
use Rattle.ftl_order.proofs.orders.Ranges.{above_range, range_above}

-- a later kid of a child stands behind more nodes
before_later : (c k n : ℕ) (f : Forest) → k < n → IsTree (from_kid c n f) → nodes_before c k f < nodes_before c n f
before_later c k n none less h = absurd h
before_later c k zero (tree class child inputs below beside) less h = absurd (let z : ⊥ = omega (arith, less) in z)
before_later c zero (suc n) (tree class child inputs below beside) less h =
    (elim (child == c) as
    (λ b. IsTree (if b then from_kid c n beside else from_kid c (suc n) beside)
    → (if b then 0 else suc (size below + nodes_before c zero beside))
    < (if b then suc (size below + nodes_before c n beside) else suc (size below + nodes_before c (suc n) beside))) [
      | true ↦ λ h. let z : 0 < suc (size below + nodes_before c n beside) = omega arith in z
      | false ↦ λ h.
          let i = before_later c zero (suc n) beside (omega arith) h in
          let z : suc (size below + nodes_before c zero beside) < suc (size below + nodes_before c (suc n) beside) =
          omega (arith, i) in
          z
    ]) h
before_later c (suc k) (suc n) (tree class child inputs below beside) less h =
    (elim (child == c) as
    (λ b. IsTree (if b then from_kid c n beside else from_kid c (suc n) beside)
    → (if b then suc (size below + nodes_before c k beside) else suc (size below + nodes_before c (suc k) beside))
    < (if b then suc (size below + nodes_before c n beside) else suc (size below + nodes_before c (suc n) beside))) [
      | true ↦ λ h.
          let i = before_later c k n beside (omega (arith, less)) h in
          let z : suc (size below + nodes_before c k beside) < suc (size below + nodes_before c n beside) =
          omega (arith, i) in
          z
      | false ↦ λ h.
          let i = before_later c (suc k) (suc n) beside less h in
          let z : suc (size below + nodes_before c (suc k) beside) < suc (size below + nodes_before c (suc n) beside) =
          omega (arith, i) in
          z
    ]) h

-- each kid of one child stands behind fewer nodes than a kid of another
abbrev StandsBefore : (c d n : ℕ) → Forest → Type 0
StandsBefore c d n f =
    (m : ℕ) → IsTree (from_kid c m f) → IsTree (from_kid d n f) → nodes_before c m f < nodes_before d n f

module _ (g : AttributeGrammar) (above : ℕ) where
  -- no kid stands in a child that is declared before the first tree's
  from_child : (d c k : ℕ) (f : Forest) → FitBelow g above f → StartsFrom d f → IsTree (from_kid c k f) → d ≤ c
  from_child d c k none fits from h = absurd h
  from_child d c zero (tree class child inputs below beside) fits from h =
      (elim (child == c) as
      (λ b. (child == c ≡ b) → IsTree (if b then tree class child inputs below beside else from_kid c zero beside)
      → d ≤ c) [
        | true ↦ λ e h. let same = eqb-true child c e in omega (arith, same, from)
        | false ↦ λ e h. let i = from_child child c zero beside fits.4 fits.3 h in omega (arith, i, from)
      ]) refl h
  from_child d c (suc k) (tree class child inputs below beside) fits from h =
      (elim (child == c) as
      (λ b. (child == c ≡ b) → IsTree (if b then from_kid c k beside else from_kid c (suc k) beside) → d ≤ c) [
        | true ↦ λ e h. let same = eqb-true child c e in omega (arith, same, from)
        | false ↦ λ e h. let i = from_child child c (suc k) beside fits.4 fits.3 h in omega (arith, i, from)
      ]) refl h

  -- a kid of a later child stands behind more nodes
  other_child : (c d k n : ℕ) (f : Forest) → FitBelow g above f → c < d → IsTree (from_kid c k f)
      → IsTree (from_kid d n f) → nodes_before c k f < nodes_before d n f
  other_child c d k n none fits less hc hd = absurd hc
  other_child c d k n (tree class child inputs below beside) fits less hc hd =
      by_second (child == d) refl (λ m hc hd. other_child c d m n beside fits.4 less hc hd)
    where
      from_first : (same : Bool) → child == c ≡ same → child == d ≡ false → (m : ℕ) → m ≡ k
          → StandsBefore c d n beside
          → nodes_before c k (tree class child inputs below beside)
          < nodes_before d n (tree class child inputs below beside)
      from_first true e other zero is later =
          let here : nodes_before c k (tree class child inputs below beside) ≡ 0 =
          ap (λ j. nodes_before c j (tree class child inputs below beside)) (sym is)
          ∙ nodes_before-here c class child inputs below beside e in
          let there = nodes_before-other d n class child inputs below beside other in
          omega (arith, here, there)
      from_first true e other (suc m) is later =
          let here =
          ap (λ j. nodes_before c j (tree class child inputs below beside)) (sym is)
          ∙ nodes_before-next c m class child inputs below beside e in
          let there = nodes_before-other d n class child inputs below beside other in
          let i =
          later m
          (subst IsTree
          (ap (λ j. from_kid c j (tree class child inputs below beside)) (sym is)
          ∙ from_kid-next c m class child inputs below beside e) hc)
          (subst IsTree (from_kid-other d n class child inputs below beside other) hd) in
          omega (arith, here, there, i)
      from_first false e other m is later =
          let here = nodes_before-other c k class child inputs below beside e in
          let there = nodes_before-other d n class child inputs below beside other in
          let i =
          later k
          (subst IsTree (from_kid-other c k class child inputs below beside e) hc)
          (subst IsTree (from_kid-other d n class child inputs below beside other) hd) in
          omega (arith, here, there, i)

      by_second : (same : Bool) → child == d ≡ same → StandsBefore c d n beside
          → nodes_before c k (tree class child inputs below beside)
          < nodes_before d n (tree class child inputs below beside)
      by_second true e later =
          let is = eqb-true child d e in
          let low =
          from_child child c k beside fits.4 fits.3
          (subst IsTree
          (from_kid-other c k class child inputs below beside
          (ne_eqb child c (λ same. omega (arith, same, is, less)))) hc) in
          absurd (let z : ⊥ = omega (arith, low, is, less) in z)
      by_second false e later = from_first (child == c) refl e k refl later

module _ (g : AttributeGrammar) (t : Forest) (fits : IsTreeOf g t) where
  abbrev pub KidBefore : (c k d n : ℕ) → Type 0
  KidBefore c k d n = (c < d) ⊎ ((c ≡ d) × (k < n))

  pub kid_less : (p : Path) (c k d n : ℕ) → Has t (down c k p) → Has t (down d n p) → KidBefore c k d n
      → number_of t (down c k p) < number_of t (down d n p)
  kid_less p c k d n hc hd less =
      ⊎_elim
      (λ less.
      let i =
      other_child g (class_at t p) c d k n (below_of (at t p)) (fits_at g t p fits (has_parent t c k p hc)).below less
      hc hd in
      let z : number_of t (down c k p) < number_of t (down d n p) = omega (arith, i) in z)
      (λ same.
      let i = before_later d k n (below_of (at t p)) same.1 hd in
      subst (λ e. number_of t (down e k p) < number_of t (down d n p)) (sym same.0) (omega (arith, i)))
      less

  -- and behind all nodes of its tree
  pub kid_behind : (p : Path) (c k d n : ℕ) → Has t (down c k p) → Has t (down d n p) → KidBefore c k d n
      → number_of t (down c k p) + size_at t (down c k p) ≤ number_of t (down d n p)
  kid_behind p c k d n hc hd less =
      ⊎_elim
      (λ inside.
      absurd
      (let first = kid_less p c k d n hc hd less in
      let above = range_above t (down c k p) (down d n p) hc hd (first, inside) in
      ⊎_elim
      (λ is. let e = ap (number_of t) is in let z : ⊥ = omega (arith, e) in z)
      (λ far. let r = (above_range t (down c k p) p (has_parent t c k p hc) far).0 in let z : ⊥ = omega (arith, r) in z)
      above))
      (λ out. out)
      (cases_lt (number_of t (down d n p)) (number_of t (down c k p) + size_at t (down c k p)))
