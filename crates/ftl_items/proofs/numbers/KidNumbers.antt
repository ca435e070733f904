-- The numbers of a node's kids rise, child after child, and are those of its kids alone.
use Rattle.std.proofs.Common.{◌≡◌, ℕ, zero, suc, ◌+◌, ◌<◌, ◌≤◌, ◌==◌, Bool, true, false, if◌then◌else◌, refl, sym, ◌∙◌, ap, subst, arith, eqb-true, ne_eqb, Contains}
use Rattle.std.specs.List.{range_with_len}
use Rattle.ftl_model.proofs.lists.Elements.{flat_map_has, in_flat_map, in_range_from, range_has}
use Rattle.ftl_model.proofs.lists.Rising.{in_map, map_has, rising-map, rising_more}
use Rattle.ftl_model.specs.layout.AttributeGrammar.{AttributeGrammar}
use Rattle.ftl_model.specs.layout.Path.{Has, Path, at, class_at, down, kids_at, number_of}
use Rattle.ftl_model.specs.layout.Tree.{Forest, IsTree, below_of, from_kid, nodes_before, none, size, tree}
use Rattle.ftl_model.specs.layout.TreeOf.{FitBelow, IsTreeOf, StartsFrom}
use Rattle.ftl_model.proofs.layout.Kids.{from_kid-next, from_kid-other, nodes_before-here, nodes_before-next, nodes_before-other}
use Rattle.ftl_model.proofs.layout.Fits.{fits_at, kid_stands}
use Rattle.ftl_order.proofs.orders.Kids.{kid_counted, kid_exists}
use Rattle.ftl_items.proofs.stage_items.Ahead.{rising-range}
use Rattle.ftl_tree.specs.rows.KidRuns.{kid_numbers}
use Rattle.ftl_items.specs.numbers.ItemNumbers.{all_kids}
use Rattle.ftl_items.proofs.numbers.RisingLists.{Rises, rising-flat_map}

-- a later kid of a child stands behind more nodes
before_later : (c k n : ℕ) (f : Forest) → k < n → IsTree (from_kid c n f) → nodes_before c k f < nodes_before c n f
before_later c k n none less h = absurd h
before_later c k zero (tree class child inputs below beside) less h = absurd (let z : ⊥ = omega (arith, less) in z)
before_later c zero (suc n) (tree class child inputs below beside) less h =
    (elim (child == c) as
    (λ b. IsTree (if b then from_kid c n beside else from_kid c (suc n) beside)
    → (if b then 0 else suc (size below + nodes_before c zero beside))
    < (if b then suc (size below + nodes_before c n beside) else suc (size below + nodes_before c (suc n) beside))) [
      | true ↦ λ h. let z : 0 < suc (size below + nodes_before c n beside) = omega arith in z
      | false ↦ λ h.
          let i = before_later c zero (suc n) beside (omega arith) h in
          let z : suc (size below + nodes_before c zero beside) < suc (size below + nodes_before c (suc n) beside) =
          omega (arith, i) in
          z
    ]) h
before_later c (suc k) (suc n) (tree class child inputs below beside) less h =
    (elim (child == c) as
    (λ b. IsTree (if b then from_kid c n beside else from_kid c (suc n) beside)
    → (if b then suc (size below + nodes_before c k beside) else suc (size below + nodes_before c (suc k) beside))
    < (if b then suc (size below + nodes_before c n beside) else suc (size below + nodes_before c (suc n) beside))) [
      | true ↦ λ h.
          let i = before_later c k n beside (omega (arith, less)) h in
          let z : suc (size below + nodes_before c k beside) < suc (size below + nodes_before c n beside) =
          omega (arith, i) in
          z
      | false ↦ λ h.
          let i = before_later c (suc k) (suc n) beside less h in
          let z : suc (size below + nodes_before c (suc k) beside) < suc (size below + nodes_before c (suc n) beside) =
          omega (arith, i) in
          z
    ]) h

-- each kid of one child stands behind fewer nodes than a kid of another
abbrev StandsBefore : (c d n : ℕ) → Forest → Type 0
StandsBefore c d n f =
    (m : ℕ) → IsTree (from_kid c m f) → IsTree (from_kid d n f) → nodes_before c m f < nodes_before d n f

module _ (g : AttributeGrammar) (above : ℕ) where
  -- no kid stands in a child that is declared before the first tree's
  from_child : (d c k : ℕ) (f : Forest) → FitBelow g above f → StartsFrom d f → IsTree (from_kid c k f) → d ≤ c
  from_child d c k none fits from h = absurd h
  from_child d c zero (tree class child inputs below beside) fits from h =
      (elim (child == c) as
      (λ b. (child == c ≡ b) → IsTree (if b then tree class child inputs below beside else from_kid c zero beside)
      → d ≤ c) [
        | true ↦ λ e h. let same = eqb-true child c e in omega (arith, same, from)
        | false ↦ λ e h. let i = from_child child c zero beside fits.4 fits.3 h in omega (arith, i, from)
      ]) refl h
  from_child d c (suc k) (tree class child inputs below beside) fits from h =
      (elim (child == c) as
      (λ b. (child == c ≡ b) → IsTree (if b then from_kid c k beside else from_kid c (suc k) beside) → d ≤ c) [
        | true ↦ λ e h. let same = eqb-true child c e in omega (arith, same, from)
        | false ↦ λ e h. let i = from_child child c (suc k) beside fits.4 fits.3 h in omega (arith, i, from)
      ]) refl h

  -- a kid of a later child stands behind more nodes
  other_child : (c d k n : ℕ) (f : Forest) → FitBelow g above f → c < d → IsTree (from_kid c k f)
      → IsTree (from_kid d n f) → nodes_before c k f < nodes_before d n f
  other_child c d k n none fits less hc hd = absurd hc
  other_child c d k n (tree class child inputs below beside) fits less hc hd =
      by_second (child == d) refl (λ m hc hd. other_child c d m n beside fits.4 less hc hd)
    where
      from_first : (same : Bool) → child == c ≡ same → child == d ≡ false → (m : ℕ) → m ≡ k
          → StandsBefore c d n beside
          → nodes_before c k (tree class child inputs below beside)
          < nodes_before d n (tree class child inputs below beside)
      from_first true e other zero is later =
          let here : nodes_before c k (tree class child inputs below beside) ≡ 0 =
          ap (λ j. nodes_before c j (tree class child inputs below beside)) (sym is)
          ∙ nodes_before-here c class child inputs below beside e in
          let there = nodes_before-other d n class child inputs below beside other in
          omega (arith, here, there)
      from_first true e other (suc m) is later =
          let here =
          ap (λ j. nodes_before c j (tree class child inputs below beside)) (sym is)
          ∙ nodes_before-next c m class child inputs below beside e in
          let there = nodes_before-other d n class child inputs below beside other in
          let i =
          later m
          (subst IsTree
          (ap (λ j. from_kid c j (tree class child inputs below beside)) (sym is)
          ∙ from_kid-next c m class child inputs below beside e) hc)
          (subst IsTree (from_kid-other d n class child inputs below beside other) hd) in
          omega (arith, here, there, i)
      from_first false e other m is later =
          let here = nodes_before-other c k class child inputs below beside e in
          let there = nodes_before-other d n class child inputs below beside other in
          let i =
          later k
          (subst IsTree (from_kid-other c k class child inputs below beside e) hc)
          (subst IsTree (from_kid-other d n class child inputs below beside other) hd) in
          omega (arith, here, there, i)

      by_second : (same : Bool) → child == d ≡ same → StandsBefore c d n beside
          → nodes_before c k (tree class child inputs below beside)
          < nodes_before d n (tree class child inputs below beside)
      by_second true e later =
          let is = eqb-true child d e in
          let low =
          from_child child c k beside fits.4 fits.3
          (subst IsTree
          (from_kid-other c k class child inputs below beside
          (ne_eqb child c (λ same. omega (arith, same, is, less)))) hc) in
          absurd (let z : ⊥ = omega (arith, low, is, less) in z)
      by_second false e later = from_first (child == c) refl e k refl later

module _ (g : AttributeGrammar) (t : Forest) (fits : IsTreeOf g t) (p : Path) where
  -- a kid of a node
  pub record KidNumbered (n : ℕ) : Type 0 where
    pub child : ℕ
    pub kid : ℕ
    pub there : Has t (down child kid p)
    pub is : number_of t (down child kid p) ≡ n

  in_numbers : (c n : ℕ) → Contains (kid_numbers t p c) n → KidNumbered n
  in_numbers c n h =
      let m = in_map (λ k. number_of t (down c k p)) (range_with_len 0 (kids_at t p c)) n h in
      let below = (in_range_from 0 (kids_at t p c) m.from m.there).1 in
      record {
        child = c;
        kid = m.from;
        there = kid_exists c m.from (below_of (at t p)) (omega (arith, below));
        is = m.is;
      }

  pub in_kids : (n : ℕ) → Contains (all_kids g t p) n → KidNumbered n
  in_kids n h =
      let piece = in_flat_map (kid_numbers t p) (range_with_len 0 (g.child_count (class_at t p))) n h in
      in_numbers piece.0 n piece.2

  pub kids_have : (c k : ℕ) → Has t (down c k p) → Contains (all_kids g t p) (number_of t (down c k p))
  kids_have c k h =
      let declared = (kid_stands g t c k p fits h).declared in
      let counted = kid_counted c k (below_of (at t p)) h in
      flat_map_has (kid_numbers t p) (range_with_len 0 (g.child_count (class_at t p))) c (number_of t (down c k p))
      (range_has 0 (g.child_count (class_at t p)) c (omega arith) (omega (arith, declared)))
      (map_has (λ k. number_of t (down c k p)) (range_with_len 0 (kids_at t p c)) k
      (range_has 0 (kids_at t p c) k (omega arith) (omega (arith, counted))))

  pub kids_rise : Has t p → Rises (all_kids g t p)
  kids_rise has =
      rising-flat_map (λ c d. c < d) (λ a b. a < b) (kid_numbers t p)
      (range_with_len 0 (g.child_count (class_at t p))) (rising-range 0 (g.child_count (class_at t p)))
      (λ c h.
      rising-map (λ a b. a < b) (λ k. number_of t (down c k p)) (range_with_len 0 (kids_at t p c))
      (rising_more (λ k n. k < n) (λ k n. number_of t (down c k p) < number_of t (down c n p))
      (range_with_len 0 (kids_at t p c))
      (λ k n hk hn less.
      let below = (in_range_from 0 (kids_at t p c) n hn).1 in
      let i =
      before_later c k n (below_of (at t p)) less (kid_exists c n (below_of (at t p)) (omega (arith, below))) in
      omega (arith, i)) (rising-range 0 (kids_at t p c))))
      (λ c d hc hd less a b ha hb.
      let first = in_kid_of c a ha in
      let second = in_kid_of d b hb in
      let i =
      other_child g (class_at t p) c d first.0 second.0 (below_of (at t p)) (fits_at g t p fits has).below less
      first.1 second.1 in
      let e = first.2 in
      let f = second.2 in
      omega (arith, i, e, f))
    where
      in_kid_of : (c n : ℕ) → Contains (kid_numbers t p c) n
          → (k : ℕ) × Has t (down c k p) × (number_of t (down c k p) ≡ n)
      in_kid_of c n h =
          let m = in_map (λ k. number_of t (down c k p)) (range_with_len 0 (kids_at t p c)) n h in
          let below = (in_range_from 0 (kids_at t p c) m.from m.there).1 in
          (m.from, kid_exists c m.from (below_of (at t p)) (omega (arith, below)), m.is)
