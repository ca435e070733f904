-- A visit, attribute by attribute.
use Rattle.std.proofs.Common.{◌≡◌, ◌≢◌, ℕ, ◌<◌, ◌≤◌, ◌==◌, true, false, if◌then◌else◌, refl, sym, ◌∙◌, ap, subst, ⊎_elim, arith, List, [], ◌∷◌, ◌++◌, map, flat_map, count_by, Contains}
use Rattle.std.specs.List.{range_with_len}
use Rattle.std.proofs.lemmas.Grind.{flat_map-append}
use Rattle.std.proofs.lemmas.List.Elements.{Contains-append_cases}
use Rattle.ftl_model.specs.lists.Lists.{AreDistinct, is_listed}
use Rattle.ftl_model.proofs.lists.Elements.{distinct-filter, distinct-range, filter_has, flat_map_has, here_in, in_cases, in_filter, in_flat_map, in_range_from, nothing_in, range_has}
use Rattle.ftl_model.proofs.lists.Listed.{is_there, listed}
use Rattle.ftl_model.proofs.lists.Rising.{in_map, map_has}
use Rattle.ftl_model.specs.layout.AttributeGrammar.{AttributeGrammar, Sort, attributes_of, for_child, for_self, inherited, input, local, synthesized}
use Rattle.ftl_model.specs.layout.Path.{Has, Path, at, child_at, class_at, down, kid_at, kids_at, top}
use Rattle.ftl_model.specs.layout.Solves.{Instance, instance_of, rule_node}
use Rattle.ftl_model.specs.layout.Tree.{Forest, below_of}
use Rattle.ftl_model.specs.layout.TreeOf.{IsTreeOf}
use Rattle.ftl_model.proofs.layout.Fits.{kid_stands}
use Rattle.ftl_order.specs.orders.Lawful.{IsLawful, OfClass, class_owner, interface_owner}
use Rattle.ftl_order.specs.orders.LegalOrder.{IsStep, turn_of}
use Rattle.ftl_order.proofs.orders.Kids.{class_known, kid_counted}
use Rattle.ftl_order.proofs.orders.Owners.{attribute_known}
use Rattle.ftl_order.proofs.orders.TreeEquations.{inherited_of_child, kid_instance, root_inherits_nothing}
use Rattle.ftl_items.specs.stage_items.VisitLaws.{StandsOnceAtMost}
use Rattle.ftl_items.specs.stage_items.Visits.{children_with, rules_by_key, rules_for, steps_of_rule, visit}
use Rattle.ftl_items.proofs.stage_items.Pieces.{distinct-map, distinct_counted, distinct_pieces, flat_map-map}

module _ (g : AttributeGrammar) (law : IsLawful g) (t : Forest) (fits : IsTreeOf g t) where
  -- the steps of one attribute in a visit
  abbrev pub steps_for : Path → Sort → ℕ → List Instance
  steps_for p sort a = flat_map (steps_of_rule t p) (rules_for g (class_at t p) sort a)

  pub visit_is : (attributes : List ℕ) (p : Path)
      → visit g t attributes p ≡ flat_map (λ a. steps_for p (g.sort a) a) attributes
  visit_is [] p = refl
  visit_is (a ∷ rest) p =
      flat_map-append (steps_of_rule t p) (rules_for g (class_at t p) (g.sort a) a) (rules_by_key g rest (class_at t p))
      ∙ ap (λ r. steps_for p (g.sort a) a ++ r) (visit_is rest p)

  -- a step of this attribute that runs at this node
  abbrev pub RunsHere : Path → ℕ → Instance → Type 0
  RunsHere p a i = IsStep g t i × (i.attribute ≡ a) × ((turn_of g i).visit ≡ p)

  own_step : (p : Path) (a : ℕ) (i : Instance) → g.sort a ≢ input → rule_node (g.sort a) p ≡ p → Has t p
      → Contains (flat_map (steps_of_rule t p)
      (if is_listed (attributes_of g (class_at t p)) a then for_self (class_at t p) a ∷ [] else [])) i
      → RunsHere p a i
  own_step p a i computed here there h =
      elim (is_listed (attributes_of g (class_at t p)) a) as
      (λ b. (is_listed (attributes_of g (class_at t p)) a ≡ b)
      → Contains (flat_map (steps_of_rule t p) (if b then for_self (class_at t p) a ∷ [] else [])) i
      → RunsHere p a i) [
        | true ↦ λ e h.
            ⊎_elim
            (λ same. subst (RunsHere p a) same
            (((there, is_there (attributes_of g (class_at t p)) a e), computed), refl, here))
            (λ none. absurd (nothing_in i none)) (in_cases (instance_of p a) i [] h)
        | false ↦ λ e h. absurd (nothing_in i h)
      ]
      refl h

  kid_step : (p : Path) (a : ℕ) (i : Instance) → g.sort a ≡ inherited → Has t p
      → Contains (flat_map (steps_of_rule t p) (map (λ c. for_child (class_at t p) c a)
      (children_with g (class_at t p) a))) i
      → RunsHere p a i
  kid_step p a i e there h =
      let class = class_at t p in
      let f = in_flat_map (steps_of_rule t p) (map (λ c. for_child class c a) (children_with g class a)) i h in
      let m = in_map (λ c. for_child class c a) (children_with g class a) f.0 f.1 in
      let c = m.from in
      let has =
      in_filter (λ c. is_listed (g.shared (g.child_interface class c)) a) (range_with_len 0 (g.child_count class)) c
      m.there in
      let s =
      in_map (λ k. instance_of (down c k p) a) (range_with_len 0 (kids_at t p c)) i
      (subst (λ r. Contains (steps_of_rule t p r) i) (sym m.is) f.2) in
      let k = s.from in
      let below = (in_range_from 0 (kids_at t p c) k s.there).1 in
      subst (RunsHere p a) s.is (
        (
          kid_instance g law t fits c k a p there (omega (arith, below))
              (is_there (g.shared (g.child_interface class c)) a has.1),
          subst (λ z. z ≢ input) (sym e) (grind arith),
        ),
        refl,
        subst (λ z. rule_node z (down c k p) ≡ p) (sym e) refl,
      )

  pub step_for : (sort : Sort) (p : Path) (a : ℕ) (i : Instance) → g.sort a ≡ sort → Has t p
      → Contains (steps_for p sort a) i → RunsHere p a i
  step_for input p a i e there h = absurd (nothing_in i h)
  step_for inherited p a i e there h = kid_step p a i e there h
  step_for synthesized p a i e there h =
      own_step p a i (subst (λ z. z ≢ input) (sym e) (grind arith))
      (subst (λ z. rule_node z p ≡ p) (sym e) refl) there h
  step_for local p a i e there h =
      own_step p a i (subst (λ z. z ≢ input) (sym e) (grind arith))
      (subst (λ z. rule_node z p ≡ p) (sym e) refl) there h

  own_has : (p : Path) (a : ℕ) → OfClass g (class_at t p) a
      → Contains (flat_map (steps_of_rule t p)
      (if is_listed (attributes_of g (class_at t p)) a then for_self (class_at t p) a ∷ [] else [])) (instance_of p a)
  own_has p a of =
      subst
      (λ b. Contains (flat_map (steps_of_rule t p) (if b then for_self (class_at t p) a ∷ [] else [])) (instance_of p a))
      (sym (listed (attributes_of g (class_at t p)) a of)) (here_in (instance_of p a) [])

  -- the child in which a kid stands is among those with its inherited attributes
  pub child_there : (c k : ℕ) (p : Path) (a : ℕ) → g.sort a ≡ inherited → Has t (down c k p)
      → OfClass g (class_at t (down c k p)) a → Contains (children_with g (class_at t p) a) c
  child_there c k p a e there of =
      let class = class_at t p in
      let declared = (kid_stands g t c k p fits there).declared in
      filter_has (λ c. is_listed (g.shared (g.child_interface class c)) a) (range_with_len 0 (g.child_count class)) c
      (range_has 0 (g.child_count class) c (omega arith) (omega (arith, declared)))
      (listed (g.shared (g.child_interface class c)) a (inherited_of_child g law t fits a c k p there of e))

  pub kid_there : (c k : ℕ) (p : Path) → Has t (down c k p) → Contains (range_with_len 0 (kids_at t p c)) k
  kid_there c k p there =
      let counted = kid_counted c k (below_of (at t p)) there in
      range_has 0 (kids_at t p c) k (omega arith) (omega (arith, counted))

  kid_has : (c k : ℕ) (p : Path) (a : ℕ) → g.sort a ≡ inherited → Has t (down c k p)
      → OfClass g (class_at t (down c k p)) a → Contains (steps_for p inherited a) (instance_of (down c k p) a)
  kid_has c k p a e there of =
      let class = class_at t p in
      flat_map_has (steps_of_rule t p) (map (λ c. for_child class c a) (children_with g class a)) (for_child class c a)
      (instance_of (down c k p) a)
      (map_has (λ c. for_child class c a) (children_with g class a) c (child_there c k p a e there of))
      (map_has (λ k. instance_of (down c k p) a) (range_with_len 0 (kids_at t p c)) k (kid_there c k p there))

  pub has_step : (sort : Sort) (q : Path) (a : ℕ) (p : Path) → g.sort a ≡ sort → sort ≢ input → Has t q
      → OfClass g (class_at t q) a → rule_node sort q ≡ p → Contains (steps_for p sort a) (instance_of q a)
  has_step input q a p e computed there of same = absurd (computed refl)
  has_step inherited top a p e computed there of same = absurd (root_inherits_nothing g law t fits a there of e)
  has_step inherited (down c k r) a p e computed there of same =
      subst (λ z. Contains (steps_for z inherited a) (instance_of (down c k r) a)) same (kid_has c k r a e there of)
  has_step synthesized q a p e computed there of same =
      subst (λ z. Contains (steps_for z synthesized a) (instance_of q a)) same (own_has q a of)
  has_step local q a p e computed there of same =
      subst (λ z. Contains (steps_for z local a) (instance_of q a)) same (own_has q a of)

  pub in_visit : (attributes : List ℕ) (p : Path) → Has t p → (i : Instance) → Contains (visit g t attributes p) i
      → IsStep g t i × Contains attributes i.attribute × ((turn_of g i).visit ≡ p)
  in_visit attributes p there i h =
      let f =
      in_flat_map (λ a. steps_for p (g.sort a) a) attributes i
      (subst (λ is. Contains is i) (visit_is attributes p) h) in
      let s = step_for (g.sort f.0) p f.0 i refl there f.2 in
      (s.0, subst (Contains attributes) (sym s.1) f.1, s.2)

  pub visit_has : (attributes : List ℕ) (p : Path) (i : Instance) → IsStep g t i
      → Contains attributes i.attribute
      → (turn_of g i).visit ≡ p → Contains (visit g t attributes p) i
  visit_has attributes p i step listed_there here =
      subst (λ is. Contains is i) (sym (visit_is attributes p))
      (flat_map_has (λ a. steps_for p (g.sort a) a) attributes i.attribute i listed_there
      (has_step (g.sort i.attribute) i.node i.attribute p refl step.1 step.0.0 step.0.1 here))

  -- ---- each once

  own_once : (p : Path) (a : ℕ)
      → AreDistinct (flat_map (steps_of_rule t p)
      (if is_listed (attributes_of g (class_at t p)) a then for_self (class_at t p) a ∷ [] else []))
  own_once p a =
      elim (is_listed (attributes_of g (class_at t p)) a) as
      (λ b. AreDistinct (flat_map (steps_of_rule t p) (if b then for_self (class_at t p) a ∷ [] else [])))
      [ true ↦ ((λ none. nothing_in (instance_of p a) none), tt) | false ↦ tt ]

  pub once_for : (sort : Sort) (p : Path) (a : ℕ) → AreDistinct (steps_for p sort a)
  once_for input p a = tt
  once_for synthesized p a = own_once p a
  once_for local p a = own_once p a
  once_for inherited p a =
      let class = class_at t p in
      subst AreDistinct
      (sym (flat_map-map (steps_of_rule t p) (λ c. for_child class c a) (children_with g class a)))
      (distinct_pieces (λ c. steps_of_rule t p (for_child class c a))
      (λ c. distinct-map (λ k. instance_of (down c k p) a)
      (λ k n e. kid_of_step k n c e) (range_with_len 0 (kids_at t p c)) (distinct-range 0 (kids_at t p c)))
      (λ c d i hc hd.
      let mc = in_map (λ k. instance_of (down c k p) a) (range_with_len 0 (kids_at t p c)) i hc in
      let md = in_map (λ k. instance_of (down d k p) a) (range_with_len 0 (kids_at t p d)) i hd in
      children_agree c d mc.from md.from (mc.is ∙ sym md.is))
      (children_with g class a)
      (distinct-filter (λ c. is_listed (g.shared (g.child_interface class c)) a)
      (range_with_len 0 (g.child_count class)) (distinct-range 0 (g.child_count class))))
    where
      kid_of_step : (k n c : ℕ) → instance_of (down c k p) a ≡ instance_of (down c n p) a → k ≡ n
      kid_of_step k n c e = ap (λ i. kid_at i.node) e

      children_agree : (c d k n : ℕ) → instance_of (down c k p) a ≡ instance_of (down d n p) a → c ≡ d
      children_agree c d k n e = ap (λ i. child_at i.node) e

  pub attribute_of_step : (i : Instance) → IsStep g t i → i.attribute < g.attribute_count
  attribute_of_step i step =
      let k = class_at t i.node in
      let known = class_known g t fits i.node step.0.0 in
      ⊎_elim
      (λ shared. attribute_known g law (interface_owner (g.interface k)) i.attribute
      (law.interfaces_known k known, shared))
      (λ private. attribute_known g law (class_owner k) i.attribute (known, private))
      (Contains-append_cases (g.shared (g.interface k)) (g.private k) i.attribute step.0.1)

  pub visit_once : (attributes : List ℕ) (p : Path) → StandsOnceAtMost g attributes → Has t p
      → AreDistinct (visit g t attributes p)
  visit_once attributes p once there =
      subst AreDistinct (sym (visit_is attributes p))
      (distinct_counted (λ a. steps_for p (g.sort a) a) (λ a. once_for (g.sort a) p a)
      (λ a b i ha hb.
      let sa = step_for (g.sort a) p a i refl there ha in
      let sb = step_for (g.sort b) p b i refl there hb in
      sym sa.1 ∙ sb.1)
      attributes
      (λ a i h.
      let s = step_for (g.sort a) p a i refl there h in
      subst (λ b. count_by (λ c. c == b) attributes ≤ 1) s.1
      (once i.attribute (attribute_of_step i s.0) s.0.1)))
