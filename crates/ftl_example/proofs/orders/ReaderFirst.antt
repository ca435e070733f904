-- Where the early steps come first, a step stands before each that need not come before it.
use Rattle.std.proofs.Common.{◌≡◌, ◌⊎◌, ℕ, true, ltb-true, refl, sym, ◌∙◌, ap, subst, inl, inr, ⊎_elim, arith, List, [], ◌∷◌, Contains}
use Rattle.std.proofs.lemmas.Bool.{and_parts, cases_lt}
use Rattle.ftl_model.specs.lists.Lists.{StandsBefore}
use Rattle.ftl_model.proofs.lists.Elements.{in_cases, nothing_in}
use Rattle.ftl_model.proofs.layout.Standing.{node_at-number_of}
use Rattle.ftl_model.specs.layout.AttributeGrammar.{AttributeGrammar, Sort, inherited, input, local, synthesized}
use Rattle.ftl_model.specs.layout.Path.{Has, Path, class_at, down, node_at, number_of, top}
use Rattle.ftl_model.specs.layout.Solves.{Instance, instance_of, rule_kid, rule_node}
use Rattle.ftl_model.specs.layout.Tree.{Forest}
use Rattle.ftl_model.specs.layout.TreeOf.{IsTreeOf}
use Rattle.ftl_order.specs.orders.Lawful.{IsLawful, OfClass}
use Rattle.ftl_order.specs.orders.LegalOrder.{FirstInPass, IsStep, KeyFirst, MustPrecede, rule_child, turn_of}
use Rattle.ftl_order.specs.orders.Schedule.{EachStandsOnce, IsOnePass, PassKind, Schedule, bottomup, inorder, placing_of, topdown}
use Rattle.ftl_order.specs.orders.Sequence.{sequence}
use Rattle.ftl_order.proofs.orders.Kids.{root_there}
use Rattle.ftl_order.proofs.orders.LegalOrders.{placing_of-one_kind}
use Rattle.ftl_order.proofs.orders.Ranges.{range_above}
use Rattle.ftl_order.proofs.orders.SchedulePlaces.{own_keys}
use Rattle.ftl_order.proofs.orders.SequenceOrder.{address_by_place, step_there, top_above}
use Rattle.ftl_order.proofs.orders.TreeEquations.{root_inherits_nothing}
use Rattle.ftl_items.proofs.stage_items.Ahead.{Ahead, ahead_stands}
use Rattle.ftl_items.proofs.stage_items.PassSteps.{visit_there}
use Rattle.ftl_items.proofs.stage_items.VisitLaws.{attribute_of_step}
use Rattle.ftl_example.specs.orders.EarlyVisits.{early_first, is_early, is_near}
use Rattle.ftl_example.specs.orders.PlainOrder.{plain_order}
use Rattle.ftl_example.proofs.orders.EarlyVisits.{early_closed, early_self, near, one, one_parts, or_split, over_parts, sooner}
use Rattle.ftl_example.proofs.orders.Parted.{before_early, early_kept, no_twice, parted_once}
use Rattle.ftl_example.proofs.orders.Plain.{plain_ahead, plain_legal}

-- of two entries that differ one stands ahead
one_ahead : {X : Type 0} (xs : List X) (x y : X) → Contains xs x → Contains xs y → (x ≡ y) ⊎ (Ahead xs x y ⊎ Ahead xs y x)
one_ahead [] x y hx hy = absurd (nothing_in x hx)
one_ahead (z ∷ zs) x y hx hy =
    ⊎_elim
    (λ at_x. ⊎_elim (λ at_y. inl (sym at_x ∙ at_y)) (λ later. inr (inl (inl (at_x, later)))) (in_cases z y zs hy))
    (λ later_x.
    ⊎_elim (λ at_y. inr (inr (inl (at_y, later_x))))
    (λ later_y.
    ⊎_elim (λ same. inl same) (λ ahead. ⊎_elim (λ a. inr (inl (inr a))) (λ a. inr (inr (inr a))) ahead)
    (one_ahead zs x y later_x later_y)) (in_cases z y zs hy)) (in_cases z x zs hx)

-- a node by the turn of its attribute
abbrev NotRoot : Sort → Path → Type 0
NotRoot sort p = sort ≡ inherited → p ≡ top → ⊥

node_by : (sort : Sort) (p q : Path) → NotRoot sort p → NotRoot sort q → rule_node sort p ≡ rule_node sort q
    → rule_child sort p ≡ rule_child sort q → rule_kid sort p ≡ rule_kid sort q → p ≡ q
node_by input p q hp hq e f k = e
node_by synthesized p q hp hq e f k = e
node_by local p q hp hq e f k = e
node_by inherited top q hp hq e f k = absurd (hp refl refl)
node_by inherited (down c n p) top hp hq e f k = absurd (hq refl refl)
node_by inherited (down c n p) (down d m q) hp hq e f k =
    ap (λ x. down c n x) e ∙ ap (λ x. down x n q) f ∙ ap (λ x. down d x q) k

module _ (g : AttributeGrammar) (s : Schedule) (t : Forest) (law : IsLawful g) (once : EachStandsOnce g s)
    (fits : IsTreeOf g t) where
  instance_by : (p q : Path) (a b : ℕ) → a ≡ b → NotRoot (g.sort a) p → NotRoot (g.sort b) q
      → rule_node (g.sort a) p ≡ rule_node (g.sort b) q → rule_child (g.sort a) p ≡ rule_child (g.sort b) q
      → rule_kid (g.sort a) p ≡ rule_kid (g.sort b) q → instance_of p a ≡ instance_of q b
  instance_by p q a b e =
      subst (λ b. NotRoot (g.sort a) p → NotRoot (g.sort b) q
      → rule_node (g.sort a) p ≡ rule_node (g.sort b) q → rule_child (g.sort a) p ≡ rule_child (g.sort b) q
      → rule_kid (g.sort a) p ≡ rule_kid (g.sort b) q → instance_of p a ≡ instance_of q b) e
      (λ hp hq n c k. ap (λ x. instance_of x a) (node_by (g.sort a) p q hp hq n c k))

  not_root : (i : Instance) → IsStep g t i → NotRoot (g.sort i.attribute) i.node
  not_root i step e at_top =
      root_inherits_nothing g law t fits i.attribute (subst (Has t) at_top step.0.0)
      (subst (λ p. OfClass g (class_at t p) i.attribute) at_top step.0.1) e

  keys : (i j : Instance) → IsStep g t i → IsStep g t j → IsOnePass (placing_of s i.attribute) (placing_of s j.attribute)
      → (turn_of g i).visit ≡ (turn_of g j).visit
      → (i ≡ j) ⊎ (KeyFirst (placing_of s) (turn_of g i) (turn_of g j) ⊎ KeyFirst (placing_of s) (turn_of g j) (turn_of g i))
  keys i j step_i step_j pass visit =
      ⊎_elim (λ l. inr (inl (inl (inl l))))
      (λ ge. ⊎_elim (λ l. inr (inr (inl (inl l))))
      (λ le.
      let index : (placing_of s i.attribute).index ≡ (placing_of s j.attribute).index = omega (arith, ge, le) in
      let a = own_keys g s once i.attribute j.attribute (attribute_of_step g law t fits i step_i)
      (attribute_of_step g law t fits j step_j) step_i.1 step_j.1 pass index in
      ⊎_elim (λ l. inr (inl (inl (inr (index, l)))))
      (λ ge. ⊎_elim (λ l. inr (inr (inl (inr (sym index, l)))))
      (λ le.
      let child : (turn_of g i).rule.child ≡ (turn_of g j).rule.child = omega (arith, ge, le) in
      ⊎_elim (λ l. inr (inl (inr ((a, child), l))))
      (λ ge. ⊎_elim (λ l. inr (inr (inr ((sym a, sym child), l))))
      (λ le.
      let kid : (turn_of g i).kid ≡ (turn_of g j).kid = omega (arith, ge, le) in
      inl (instance_by i.node j.node i.attribute j.attribute a (not_root i step_i) (not_root j step_j) visit child kid))
      (cases_lt (turn_of g j).kid (turn_of g i).kid)) (cases_lt (turn_of g i).kid (turn_of g j).kid))
      (cases_lt (turn_of g j).rule.child (turn_of g i).rule.child))
      (cases_lt (turn_of g i).rule.child (turn_of g j).rule.child))
      (cases_lt (placing_of s j.attribute).index (placing_of s i.attribute).index))
      (cases_lt (placing_of s i.attribute).index (placing_of s j.attribute).index)

  there : (i : Instance) → IsStep g t i → Has t (turn_of g i).visit
  there i step = visit_there g s t law once fits 0 i step

  -- two nodes by their numbers
  one_node : (p q : Path) → Has t p → Has t q → number_of t p ≡ number_of t q → p ≡ q
  one_node p q hp hq e = sym (node_at-number_of t p hp) ∙ ap (node_at t) e ∙ node_at-number_of t q hq

  module _ (r w : Instance) (step_r : IsStep g t r) (step_w : IsStep g t w) (free : MustPrecede g t s w r → ⊥) where
    -- w is r, or r must come before it
    abbrev pub Later : Type 0
    Later = (w ≡ r) ⊎ MustPrecede g t s r w

    in_visit : (kind : PassKind) → IsOnePass (placing_of s w.attribute) (placing_of s r.attribute)
        → (KeyFirst (placing_of s) (turn_of g w) (turn_of g r) → ⊥)
        → (KeyFirst (placing_of s) (turn_of g r) (turn_of g w) → MustPrecede g t s r w)
        → (turn_of g w).visit ≡ (turn_of g r).visit → Later
    in_visit kind pass no_key next visit =
        ⊎_elim (λ same. inl same) (λ key. ⊎_elim (λ k. absurd (no_key k)) (λ k. inr (next k)) key)
        (keys w r step_w step_r pass visit)

    by_kind : (kind : PassKind) → IsOnePass (placing_of s w.attribute) (placing_of s r.attribute)
        → (FirstInPass kind (placing_of s) (turn_of g w) (turn_of g r) → ⊥)
        → (FirstInPass kind (placing_of s) (turn_of g r) (turn_of g w) → MustPrecede g t s r w)
        → is_near kind t (turn_of g w).visit (turn_of g r).visit ≡ true → Later
    by_kind topdown pass none next close =
        let o = over_parts t (turn_of g w).visit (turn_of g r).visit close in
        let le = o.0 in
        let less = o.1 in
        ⊎_elim
        (λ low.
        absurd
        (none
        (inr
        (range_above t (turn_of g w).visit (turn_of g r).visit (there w step_w) (there r step_r)
        (omega (arith, low), omega (arith, less))))))
        (λ high.
        let visit = one_node (turn_of g w).visit (turn_of g r).visit (there w step_w) (there r step_r) (omega (arith, le, high)) in
        in_visit topdown pass (λ k. none (inl (visit, k))) (λ k. next (inl (sym visit, k))) visit)
        (cases_lt (number_of t (turn_of g w).visit) (number_of t (turn_of g r).visit))
    by_kind bottomup pass none next close =
        let o = over_parts t (turn_of g r).visit (turn_of g w).visit close in
        let le = o.0 in
        let less = o.1 in
        ⊎_elim
        (λ low.
        absurd
        (none
        (inr
        (range_above t (turn_of g r).visit (turn_of g w).visit (there r step_r) (there w step_w)
        (omega (arith, low), omega (arith, less))))))
        (λ high.
        let visit = one_node (turn_of g w).visit (turn_of g r).visit (there w step_w) (there r step_r) (omega (arith, le, high)) in
        in_visit bottomup pass (λ k. none (inl (visit, k))) (λ k. next (inl (sym visit, k))) visit)
        (cases_lt (number_of t (turn_of g r).visit) (number_of t (turn_of g w).visit))
    by_kind inorder pass none next close =
        let root = root_there g t fits in
        let place = placing_of s r.attribute in
        let xs = sequence g (placing_of s) place t in
        let has_w = step_there g law s once t fits place top root w step_w (top_above (turn_of g w).visit) pass in
        let has_r = step_there g law s once t fits place top root r step_r (top_above (turn_of g r).visit) (refl, refl) in
        ⊎_elim (λ same. inl same)
        (λ ahead.
        ⊎_elim
        (λ a. absurd (none (address_by_place g law s once t fits place top root w r (ahead_stands xs w r a))))
        (λ a. inr (next (address_by_place g law s once t fits place top root r w (ahead_stands xs r w a)))) ahead)
        (one_ahead xs w r has_w has_r)

    pub later : is_early g (placing_of s) t r w ≡ true → Later
    later e =
        ⊎_elim (λ early. absurd (free (inl (ltb-true (placing_of s w.attribute).stage (placing_of s r.attribute).stage early))))
        (λ both.
        let b = and_parts (one g s t r law once fits step_r w) (near g s t r law once fits step_r w) both in
        let pass = one_parts g s t r law once fits step_r w b.0 in
        let kind = placing_of-one_kind s w.attribute r.attribute pass in
        by_kind (placing_of s r.attribute).kind pass (λ first. free (inr (pass, first)))
        (λ first.
        inr ((sym pass.0, sym pass.1), subst (λ k. FirstInPass k (placing_of s) (turn_of g r) (turn_of g w)) (sym kind) first))
        b.1) (or_split (sooner g s t r law once fits step_r w) _ e)

    pub reader_first : StandsBefore (early_first g s t r) w r → ⊥
    reader_first h =
        let legal = plain_legal g s t law once fits in
        let closed = early_closed g s t r law once fits step_r in
        let self = early_self g s t r law once fits step_r in
        let test = is_early g (placing_of s) t r in
        let First = MustPrecede g t s in
        let early = before_early g t First (plain_order g s t) legal test closed w r self h in
        ⊎_elim
        (λ same. no_twice (early_first g s t r) (parted_once g t First (plain_order g s t) legal test closed) w r h same)
        (λ first.
        early_kept g t First (plain_order g s t) legal test closed r w self early
        (plain_ahead g s t law once fits r w step_r step_w first) h) (later early)
