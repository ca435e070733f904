-- In an inorder pass a step must precede another exactly where it stands before it in the sequence.
use Rattle.std.proofs.Common.{◌≡◌, ◌≢◌, ℕ, ◌+◌, ◌<◌, ◌≤◌, refl, sym, ◌∙◌, ap, subst, inl, inr, ⊎_elim, arith, List, [], ◌∷◌, ◌++◌, length, get_or, Contains}
use Rattle.std.proofs.lemmas.Bool.{cases_lt}
use Rattle.std.proofs.lemmas.List.{get_or_default}
use Rattle.std.proofs.lemmas.List.Elements.{Contains-append_cases}
use Rattle.ftl_model.specs.lists.Lists.{Before, StandsBefore}
use Rattle.ftl_model.proofs.lists.Rising.{Rising, before_once, map_has, rising-append, rising_at}
use Rattle.ftl_model.specs.layout.AttributeGrammar.{AttributeGrammar, Sort, inherited, input, local, synthesized}
use Rattle.ftl_model.specs.layout.Path.{AtOrAbove, Has, Path, at as tree_at, class_at, down, top}
use Rattle.ftl_model.specs.layout.Solves.{Instance, instance_of, rule_node}
use Rattle.ftl_model.specs.layout.Tree.{Forest, below_of}
use Rattle.ftl_model.specs.layout.TreeOf.{IsTreeOf}
use Rattle.ftl_model.proofs.layout.Fits.{fits_at}
use Rattle.ftl_model.proofs.layout.Standing.{has_parent}
use Rattle.ftl_order.specs.orders.Lawful.{IsLawful, OfClass, class_owner, interface_owner}
use Rattle.ftl_order.specs.orders.LegalOrder.{FirstInPass, IsStep, MustPrecede, address, turn_of}
use Rattle.ftl_order.specs.orders.Schedule.{EachStandsOnce, IsOnePass, Placing, Schedule, SchedulePlace, inorder, placing_of}
use Rattle.ftl_order.specs.orders.Sequence.{keyed, sequence_at, sequence_below, steps_at}
use Rattle.ftl_order.proofs.orders.Kids.{class_known}
use Rattle.ftl_order.proofs.orders.LegalOrders.{computed}
use Rattle.ftl_order.proofs.orders.Owners.{attribute_known}
use Rattle.ftl_order.proofs.orders.SequenceAddresses.{EarlierAddress, goes_before, into_block, local_goes, synthesized_goes}
use Rattle.ftl_order.proofs.orders.SequenceHas.{keyed_has, kid_in, visit_in}
use Rattle.ftl_order.proofs.orders.SequenceRises.{OwnPlaces, below_rises, starts_anywhere, steps_rise}
use Rattle.ftl_order.proofs.orders.SchedulePlaces.{own_keys}
use Rattle.ftl_order.proofs.orders.TreeEquations.{root_inherits_nothing}

-- of the pass of this place, over a node and all below it
module _ (g : AttributeGrammar) (law : IsLawful g) (at : Placing) (x : SchedulePlace) (own : OwnPlaces g at x)
    (t : Forest) (fits : IsTreeOf g t) (r : Path) (root : Has t r) where
  step_in : (sort : Sort) (p : Path) (a : ℕ) → g.sort a ≡ sort → sort ≢ input → Has t p → OfClass g (class_at t p) a
      → AtOrAbove r (rule_node sort p)
      → IsOnePass (at a) x → Contains (sequence_at g at x t r) (instance_of p a)
  step_in input p a e computed there of below pass = absurd (computed refl)
  step_in inherited top a e computed there of below pass = absurd (root_inherits_nothing g law t fits a there of e)
  step_in inherited (down c k p) a e computed there of below pass =
      visit_in g at x t r p below (has_parent t c k p there) (instance_of (down c k p) a)
      (inr (inl
      (kid_in g at x (below_of (tree_at t p)) p (λ c. 0) c k k (let z : k ≡ 0 + k = omega arith in z) there
      (instance_of (down c k p) a)
      (inl
      (map_has (instance_of (down c k p)) (keyed g at x inherited (class_at t (down c k p))) a
      (keyed_has g at x inherited (class_at t (down c k p)) a e of pass))))))
  step_in synthesized p a e computed there of below pass =
      visit_in g at x t r p below there (instance_of p a)
      (inr (inr
      (map_has (instance_of p) (keyed g at x synthesized (class_at t p)) a
      (keyed_has g at x synthesized (class_at t p) a e of pass))))
  step_in local p a e computed there of below pass =
      visit_in g at x t r p below there (instance_of p a)
      (inl
      (map_has (instance_of p) (keyed g at x local (class_at t p)) a
      (keyed_has g at x local (class_at t p) a e of pass)))

  pub sequence_rises_by : Rising (EarlierAddress g at) (sequence_at g at x t r)
  sequence_rises_by =
      let known = class_known g t fits r root in
      let ls = steps_at g at x local (class_at t r) r in
      let bs = sequence_below g at x r (λ c. 0) (below_of (tree_at t r)) in
      let ss = steps_at g at x synthesized (class_at t r) r in
      let within = below_rises g law at x own (below_of (tree_at t r)) (class_at t r) 0 r (λ c. 0)
      (fits_at g t r fits root).below
      (starts_anywhere g law at x own (below_of (tree_at t r))) in
      let lg = local_goes g at x (class_at t r) r in
      let sg = synthesized_goes g at x (class_at t r) r in
      let R = EarlierAddress g at in
      rising-append R ls (bs ++ ss) (steps_rise g law at x own local (class_at t r) r known (grind arith))
      (rising-append R bs ss within.rising (steps_rise g law at x own synthesized (class_at t r) r known (grind arith))
      (λ i j hi hj.
      goes_before g at r (1 ∷ []) (2 ∷ []) i j
      (into_block g at r 0 (λ c. 0) i (within.to_come i hi)) (sg j hj)
      (λ ri rj. inl (omega arith))))
      (λ i j hi hj.
      ⊎_elim
      (λ b.
      goes_before g at r (0 ∷ []) (1 ∷ []) i j (lg i hi)
      (into_block g at r 0 (λ c. 0) j (within.to_come j b)) (λ ri rj. inl (omega arith)))
      (λ b. goes_before g at r (0 ∷ []) (2 ∷ []) i j (lg i hi) (sg j b) (λ ri rj. inl (omega arith)))
      (Contains-append_cases bs ss j hj))

  abbrev pub whole : List Instance
  whole = sequence_at g at x t r

  abbrev pub Earlier : Instance → Instance → Type 0
  Earlier i j = Before (address at (turn_of g i)) (address at (turn_of g j))

  places_rise : (m n : ℕ) (d e : Instance) → m < n → n < length whole → Earlier (get_or whole m d) (get_or whole n e)
  places_rise m n d e less below =
      subst (λ z. Earlier (get_or whole m d) z) (get_or_default whole n d e below)
      (rising_at (EarlierAddress g at) whole sequence_rises_by m n d less below)

  pub stands_by_places : (i j : Instance) → Contains whole i → Contains whole j → Earlier i j → StandsBefore whole i j
  stands_by_places i j hi hj first = (
    hi.0,
    hj.0,
    ⊎_elim (λ less. less) (λ late. absurd (no_later late)) (cases_lt hi.0 hj.0),
    hj.1,
    (λ d. get_or_default whole hi.0 d i hi.1 ∙ hi.2),
    (λ d. get_or_default whole hj.0 d j hj.1 ∙ hj.2),
  )
    where
      no_later : hj.0 ≤ hi.0 → ⊥
      no_later late =
          ⊎_elim
          (λ less.
          before_once (address at (turn_of g i)) (address at (turn_of g j)) first
          (subst (λ z. Earlier z i) hj.2
          (subst (λ z. Earlier (get_or whole hj.0 j) z) hi.2 (places_rise hj.0 hi.0 j i less hi.1))))
          (λ least.
          let e : i ≡ j =
          sym hi.2
          ∙ ap (λ m. get_or whole m i) (let z : hi.0 ≡ hj.0 = omega (arith, late, least) in z)
          ∙ get_or_default whole hj.0 i j hj.1
          ∙ hj.2 in
          let again = subst (λ z. Earlier z j) e first in
          before_once (address at (turn_of g j)) (address at (turn_of g j)) again again)
          (cases_lt hj.0 hi.0)

  pub places_by_stand : (i j : Instance) → StandsBefore whole i j → Earlier i j
  places_by_stand i j h =
      subst (λ z. Earlier z j) (h.4 i)
      (subst (λ z. Earlier (get_or whole h.0 i) z) (h.5 i) (places_rise h.0 h.1 i i h.2 h.3))

  pub step_there_by : (i : Instance) → IsStep g t i → AtOrAbove r (turn_of g i).visit → IsOnePass (at i.attribute) x
      → Contains whole i
  step_there_by i step below pass =
      step_in (g.sort i.attribute) i.node i.attribute refl step.1 step.0.0 step.0.1 below pass

-- in a schedule with each computed attribute once
module _ (g : AttributeGrammar) (law : IsLawful g) (s : Schedule) (once : EachStandsOnce g s)
    (t : Forest)
    (fits : IsTreeOf g t) (x : SchedulePlace) (r : Path) (root : Has t r) where
  attribute_of_class : (k a : ℕ) → k < g.class_count → OfClass g k a → a < g.attribute_count
  attribute_of_class k a known of =
      ⊎_elim
      (λ shared. attribute_known g law (interface_owner (g.interface k)) a (law.interfaces_known k known, shared))
      (λ private. attribute_known g law (class_owner k) a (known, private))
      (Contains-append_cases (g.shared (g.interface k)) (g.private k) a of)

  keys : OwnPlaces g (placing_of s) x
  keys k a b known of_a of_b computed_a computed_b pass_a pass_b =
      own_keys g s once a b (attribute_of_class k a known of_a) (attribute_of_class k b known of_b) computed_a computed_b
      (pass_a.0 ∙ sym pass_b.0, pass_a.1 ∙ sym pass_b.1)

  abbrev whole_by_schedule : List Instance
  whole_by_schedule = sequence_at g (placing_of s) x t r

  pub sequence_rises : Rising (EarlierAddress g (placing_of s)) whole_by_schedule
  sequence_rises = sequence_rises_by g law (placing_of s) x keys t fits r root

  pub stands_by_address : (i j : Instance) → Contains whole_by_schedule i → Contains whole_by_schedule j
      → Before (address (placing_of s) (turn_of g i)) (address (placing_of s) (turn_of g j))
      → StandsBefore whole_by_schedule i j
  stands_by_address = stands_by_places g law (placing_of s) x keys t fits r root

  pub address_by_place : (i j : Instance) → StandsBefore whole_by_schedule i j
      → Before (address (placing_of s) (turn_of g i)) (address (placing_of s) (turn_of g j))
  address_by_place = places_by_stand g law (placing_of s) x keys t fits r root

  pub step_there : (i : Instance) → IsStep g t i → AtOrAbove r (turn_of g i).visit → IsOnePass (placing_of s i.attribute) x
      → Contains whole_by_schedule i
  step_there = step_there_by g law (placing_of s) x keys t fits r root

-- in an inorder pass a step must precede another exactly where it stands before it in the sequence
module _ (g : AttributeGrammar) (law : IsLawful g) (s : Schedule) (once : EachStandsOnce g s)
    (t : Forest)
    (fits : IsTreeOf g t) (r : Path) (root : Has t r) (i j : Instance) (step_i : IsStep g t i) (step_j : IsStep g t j)
    (below_i : AtOrAbove r (turn_of g i).visit) (below_j : AtOrAbove r (turn_of g j).visit)
    (pass : IsOnePass (placing_of s i.attribute) (placing_of s j.attribute))
    (kind : (placing_of s j.attribute).kind ≡ inorder) where
  pub precede_stands : MustPrecede g t s i j
      → StandsBefore (sequence_at g (placing_of s) (placing_of s j.attribute) t r) i j
  precede_stands first =
      stands_by_address g law s once t fits (placing_of s j.attribute) r root i j
      (step_there g law s once t fits (placing_of s j.attribute) r root i step_i below_i pass)
      (step_there g law s once t fits (placing_of s j.attribute) r root j step_j below_j (refl, refl))
      (⊎_elim (λ stage. absurd (let e = pass.0 in let z : ⊥ = omega (arith, stage, e) in z))
      (λ here. subst (λ k. FirstInPass k (placing_of s) (turn_of g i) (turn_of g j)) kind here.1) first)

  pub stands_precede : StandsBefore (sequence_at g (placing_of s) (placing_of s j.attribute) t r) i j
      → MustPrecede g t s i j
  stands_precede h =
      inr (
        pass,
        subst (λ k. FirstInPass k (placing_of s) (turn_of g i) (turn_of g j)) (sym kind)
            (address_by_place g law s once t fits (placing_of s j.attribute) r root i j h),
      )

pub top_above : (p : Path) → AtOrAbove top p
top_above top = inl refl
top_above (down c k p) = inr (top_above p)
