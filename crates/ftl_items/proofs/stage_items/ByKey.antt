-- In a visit steps stand by key, and those of one rule by kid.
use Rattle.std.proofs.Common.{◌≡◌, ◌⊎◌, ℕ, ◌<◌, Bool, refl, sym, ◌∙◌, ap, ap₂, subst, inl, inr, ⊎_elim, arith, List, flat_map, get_or, map, Contains}
use Rattle.std.specs.List.{range_with_len}
use Rattle.ftl_model.specs.lists.Lists.{is_listed, place_in}
use Rattle.ftl_model.proofs.lists.Elements.{in_filter}
use Rattle.ftl_model.proofs.lists.Places.{place_is}
use Rattle.ftl_model.proofs.lists.Rising.{map_has}
use Rattle.ftl_model.specs.layout.AttributeGrammar.{AttributeGrammar, Sort, for_child, inherited, input, local, synthesized}
use Rattle.ftl_model.specs.layout.Path.{Has, Path, class_at, down, kids_at, top}
use Rattle.ftl_model.specs.layout.Solves.{Instance, instance_of, rule_kid, rule_node}
use Rattle.ftl_model.specs.layout.Tree.{Forest}
use Rattle.ftl_model.specs.layout.TreeOf.{IsTreeOf}
use Rattle.ftl_order.specs.orders.Lawful.{IsLawful, OfClass}
use Rattle.ftl_order.specs.orders.LegalOrder.{IsStep, KeyFirst, rule_child, turn_of}
use Rattle.ftl_order.specs.orders.Schedule.{EachStandsOnce, Placing, Schedule, pass_at, placing_of}
use Rattle.ftl_order.proofs.orders.TreeEquations.{root_inherits_nothing}
use Rattle.ftl_items.specs.stage_items.Visits.{children_with, steps_of_rule, visit}
use Rattle.ftl_items.proofs.stage_items.Ahead.{Ahead, ahead-filter, ahead-flat_map, ahead-map, ahead-range, ahead_inside, ahead_placed}
use Rattle.ftl_items.proofs.stage_items.PassSteps.{pass_of_step}
use Rattle.ftl_items.proofs.stage_items.VisitLaws.{child_there, has_step, in_visit, kid_there, steps_for, visit_is}

module _ (g : AttributeGrammar) (law : IsLawful g) (t : Forest) (fits : IsTreeOf g t) where
  -- the child is earlier, or the child is the same and the kid is earlier
  abbrev pub RuleFirst : (c k d n : ℕ) → Type 0
  RuleFirst c k d n = (c < d) ⊎ ((c ≡ d) × (k < n))

  kids_ahead : (c k n : ℕ) (p : Path) (a : ℕ) → g.sort a ≡ inherited → Has t (down c k p)
      → OfClass g (class_at t (down c k p)) a → Has t (down c n p) → k < n
      → Ahead (steps_for g law t fits p inherited a) (instance_of (down c k p) a) (instance_of (down c n p) a)
  kids_ahead c k n p a e there of later less =
      let class = class_at t p in
      ahead_inside (steps_of_rule t p) (map (λ c. for_child class c a) (children_with g class a)) (for_child class c a)
      (instance_of (down c k p) a) (instance_of (down c n p) a)
      (map_has (λ c. for_child class c a) (children_with g class a) c (child_there g law t fits c k p a e there of))
      (ahead-map (λ k. instance_of (down c k p) a) (range_with_len 0 (kids_at t p c)) k n
      (ahead-range 0 (kids_at t p c) k n (kid_there g law t fits c k p there) (kid_there g law t fits c n p later)
      less))

  children_ahead : (c k d n : ℕ) (p : Path) (a : ℕ) → g.sort a ≡ inherited → Has t (down c k p)
      → OfClass g (class_at t (down c k p)) a → Has t (down d n p) → OfClass g (class_at t (down d n p)) a → c < d
      → Ahead (steps_for g law t fits p inherited a) (instance_of (down c k p) a) (instance_of (down d n p) a)
  children_ahead c k d n p a e there of later of_later less =
      let class = class_at t p in
      let test : ℕ → Bool = λ c. is_listed (g.shared (g.child_interface class c)) a in
      let declared = range_with_len 0 (g.child_count class) in
      let in_c = in_filter test declared c (child_there g law t fits c k p a e there of) in
      let in_d = in_filter test declared d (child_there g law t fits d n p a e later of_later) in
      ahead-flat_map (steps_of_rule t p) (map (λ c. for_child class c a) (children_with g class a))
      (for_child class c a) (for_child class d a)
      (instance_of (down c k p) a) (instance_of (down d n p) a)
      (ahead-map (λ c. for_child class c a) (children_with g class a) c d
      (ahead-filter test declared c d (ahead-range 0 (g.child_count class) c d in_c.0 in_d.0 less) in_c.1 in_d.1))
      (map_has (λ k. instance_of (down c k p) a) (range_with_len 0 (kids_at t p c)) k
      (kid_there g law t fits c k p there))
      (map_has (λ k. instance_of (down d k p) a) (range_with_len 0 (kids_at t p d)) n
      (kid_there g law t fits d n p later))

  at_one_node : (c k d n : ℕ) (p : Path) (a : ℕ) → g.sort a ≡ inherited → Has t (down c k p)
      → OfClass g (class_at t (down c k p)) a → Has t (down d n p) → OfClass g (class_at t (down d n p)) a
      → RuleFirst c k d n
      → Ahead (steps_for g law t fits p inherited a) (instance_of (down c k p) a) (instance_of (down d n p) a)
  at_one_node c k d n p a e there of later of_later first =
      ⊎_elim (λ child. children_ahead c k d n p a e there of later of_later child)
      (λ kid.
      subst
      (λ x. Has t (down x n p)
      → Ahead (steps_for g law t fits p inherited a) (instance_of (down c k p) a) (instance_of (down x n p) a)) kid.0
      (λ h. kids_ahead c k n p a e there of h kid.1) later)
      first

  nothing_first : RuleFirst 0 0 0 0 → ⊥
  nothing_first first =
      ⊎_elim (λ less. let z : ⊥ = omega (arith, less) in z)
      (λ kid. let less = kid.1 in let z : ⊥ = omega (arith, less) in z) first

  -- of one attribute
  rule_ahead : (sort : Sort) (p q r : Path) (a : ℕ) → g.sort a ≡ sort → Has t q → OfClass g (class_at t q) a → Has t r
      → OfClass g (class_at t r) a → rule_node sort q ≡ p → rule_node sort r ≡ p
      → RuleFirst (rule_child sort q) (rule_kid sort q) (rule_child sort r) (rule_kid sort r)
      → Ahead (steps_for g law t fits p sort a) (instance_of q a) (instance_of r a)
  rule_ahead input p q r a e hq oq hr or_ nq nr first = absurd (nothing_first first)
  rule_ahead synthesized p q r a e hq oq hr or_ nq nr first = absurd (nothing_first first)
  rule_ahead local p q r a e hq oq hr or_ nq nr first = absurd (nothing_first first)
  rule_ahead inherited p top r a e hq oq hr or_ nq nr first = absurd (root_inherits_nothing g law t fits a hq oq e)
  rule_ahead inherited p (down c k q) top a e hq oq hr or_ nq nr first =
      absurd (root_inherits_nothing g law t fits a hr or_ e)
  rule_ahead inherited p (down c k q) (down d n r) a e hq oq hr or_ nq nr first =
      subst
      (λ z. Ahead (steps_for g law t fits z inherited a) (instance_of (down c k q) a) (instance_of (down d n r) a)) nq
      (subst
      (λ z. Has t (down d n z) → OfClass g (class_at t (down d n z)) a
      → Ahead (steps_for g law t fits q inherited a) (instance_of (down c k q) a) (instance_of (down d n z) a))
      (nq ∙ sym nr) (λ h of. at_one_node c k d n q a e hq oq h of first) hr or_)

  same_ahead : (attributes : List ℕ) (p q r : Path) (a b : ℕ) → a ≡ b → Contains attributes a
      → IsStep g t (instance_of q a) → rule_node (g.sort a) q ≡ p
      → IsStep g t (instance_of r b) → rule_node (g.sort b) r ≡ p
      → RuleFirst (rule_child (g.sort a) q) (rule_kid (g.sort a) q) (rule_child (g.sort b) r) (rule_kid (g.sort b) r)
      → Ahead (flat_map (λ a. steps_for g law t fits p (g.sort a) a) attributes) (instance_of q a) (instance_of r b)
  same_ahead attributes p q r a b e listed step_q here_q step_r here_r first =
      subst
      (λ b.
      IsStep g t (instance_of r b) → rule_node (g.sort b) r ≡ p
      → RuleFirst (rule_child (g.sort a) q) (rule_kid (g.sort a) q) (rule_child (g.sort b) r) (rule_kid (g.sort b) r)
      → Ahead (flat_map (λ a. steps_for g law t fits p (g.sort a) a) attributes) (instance_of q a) (instance_of r b))
      e
      (λ step here first.
      ahead_inside (λ a. steps_for g law t fits p (g.sort a) a) attributes a (instance_of q a) (instance_of r a) listed
      (rule_ahead (g.sort a) p q r a refl step_q.0.0 step_q.0.1 step.0.0 step.0.1 here_q here first))
      step_r here_r first

  -- of a list, and of places that are those in it
  module _ (at : Placing) (attributes : List ℕ)
      (index_is : (i : Instance) → IsStep g t i → Contains attributes i.attribute
      → (at i.attribute).index ≡ place_in attributes i.attribute) where
    pub key_ahead_by : (p : Path) (i j : Instance) → Has t p → Contains (visit g t attributes p) i
        → Contains (visit g t attributes p) j → KeyFirst at (turn_of g i) (turn_of g j)
        → Ahead (visit g t attributes p) i j
    key_ahead_by p i j there in_i in_j first =
        let vi = in_visit g law t fits attributes p there i in_i in
        let vj = in_visit g law t fits attributes p there j in_j in
        let ei = index_is i vi.0 vi.1 in
        let ej = index_is j vj.0 vj.1 in
        let same = λ (e : (at i.attribute).index ≡ (at j.attribute).index).
        sym (place_is attributes i.attribute 0 vi.1)
        ∙ ap (λ n. get_or attributes n 0) (sym ei ∙ e ∙ ej)
        ∙ place_is attributes j.attribute 0 vj.1 in
        subst (λ is. Ahead is i j) (sym (visit_is g law t fits attributes p))
        (⊎_elim
        (λ key.
        ⊎_elim
        (λ less.
        ahead-flat_map (λ a. steps_for g law t fits p (g.sort a) a) attributes i.attribute j.attribute i j
        (ahead_placed attributes i.attribute j.attribute vi.1 vj.1 (omega (arith, less, ei, ej)))
        (has_step g law t fits (g.sort i.attribute) i.node i.attribute p refl vi.0.1 vi.0.0.0 vi.0.0.1 vi.2)
        (has_step g law t fits (g.sort j.attribute) j.node j.attribute p refl vj.0.1 vj.0.0.0 vj.0.0.1 vj.2))
        (λ child.
        same_ahead attributes p i.node j.node i.attribute j.attribute (same child.0) vi.1 vi.0 vi.2 vj.0 vj.2
        (inl child.1)) key)
        (λ kid.
        same_ahead attributes p i.node j.node i.attribute j.attribute kid.0.0 vi.1 vi.0 vi.2 vj.0 vj.2
        (inr (kid.0.1, kid.1))) first)

  module _ (s : Schedule) (once : EachStandsOnce g s) (stage : ℕ) where
    abbrev attributes_at : ℕ → List ℕ
    attributes_at m = (pass_at s stage m).attributes

    index_is : (m : ℕ) (i : Instance) → IsStep g t i → Contains (attributes_at m) i.attribute
        → (placing_of s i.attribute).index ≡ place_in (attributes_at m) i.attribute
    index_is m i step there =
        let here = pass_of_step g s t law once fits stage m i step there in
        ap₂ (λ u v. place_in (pass_at s u v).attributes i.attribute) here.0 here.1

    pub key_ahead : (m : ℕ) (p : Path) (i j : Instance) → Has t p → Contains (visit g t (attributes_at m) p) i
        → Contains (visit g t (attributes_at m) p) j → KeyFirst (placing_of s) (turn_of g i) (turn_of g j)
        → Ahead (visit g t (attributes_at m) p) i j
    key_ahead m = key_ahead_by (placing_of s) (attributes_at m) (index_is m)
