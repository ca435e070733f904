-- The steps that are brought forward before a step are closed.
use Rattle.std.proofs.Common.{◌≡◌, ◌⊎◌, ◌+◌, ◌<◌, ◌≤◌, ◌==◌, ◌&&◌, ◌||◌, nat_le, nat_lt, Bool, true, false, refl, sym, ◌∙◌, ap, subst, inl, inr, ⊎_elim, arith, le-leb, leb-true, ltb-true, lt-ltb, eqb-true, eq-eqb}
use Rattle.std.proofs.lemmas.Bool.{and_from, and_parts, cases_lt}
use Rattle.ftl_model.proofs.layout.Standing.{node_at-number_of}
use Rattle.ftl_model.specs.layout.AttributeGrammar.{AttributeGrammar}
use Rattle.ftl_model.specs.layout.Path.{Above, Has, Path, node_at, number_of, size_at}
use Rattle.ftl_model.specs.layout.Solves.{Instance}
use Rattle.ftl_model.specs.layout.Tree.{Forest}
use Rattle.ftl_model.specs.layout.TreeOf.{IsTreeOf}
use Rattle.ftl_order.specs.orders.Lawful.{IsLawful}
use Rattle.ftl_order.specs.orders.LegalOrder.{FirstInPass, IsStep, MustPrecede, turn_of}
use Rattle.ftl_order.specs.orders.Schedule.{EachStandsOnce, PassKind, Schedule, bottomup, inorder, placing_of, topdown}
use Rattle.ftl_order.proofs.orders.LegalOrders.{placing_of-one_kind}
use Rattle.ftl_order.proofs.orders.Ranges.{above_range, range_above}
use Rattle.ftl_items.proofs.stage_items.PassSteps.{visit_there}
use Rattle.ftl_example.specs.orders.EarlyVisits.{is_early, is_near, is_over}
use Rattle.ftl_example.specs.orders.PlainOrder.{IsClosed}

or_left : (x y : Bool) → x ≡ true → (x || y) ≡ true
or_left true y e = refl
or_left false y e = let z : ⊥ = grind (arith, e) in absurd z

or_right : (x y : Bool) → y ≡ true → (x || y) ≡ true
or_right true y e = refl
or_right false y e = e

pub or_split : (x y : Bool) → (x || y) ≡ true → (x ≡ true) ⊎ (y ≡ true)
or_split true y e = inl refl
or_split false y e = inr e

module _ (t : Forest) where
  pub over_from : (p q : Path) → number_of t p ≤ number_of t q → number_of t q < number_of t p + size_at t p
      → is_over t p q ≡ true
  over_from p q le less =
      and_from (nat_le (number_of t p) (number_of t q)) (nat_lt (number_of t q) (number_of t p + size_at t p))
      (le-leb (number_of t p) (number_of t q) le) (lt-ltb (number_of t q) (number_of t p + size_at t p) less)

  pub over_parts : (p q : Path) → is_over t p q ≡ true
      → (number_of t p ≤ number_of t q) × (number_of t q < number_of t p + size_at t p)
  over_parts p q e =
      let b = and_parts (nat_le (number_of t p) (number_of t q)) (nat_lt (number_of t q) (number_of t p + size_at t p)) e in
      (leb-true (number_of t p) (number_of t q) b.0, ltb-true (number_of t q) (number_of t p + size_at t p) b.1)

  pub over_self : (p : Path) → is_over t p p ≡ true
  over_self p = over_from p p (omega arith) (omega arith)

  -- the whole tree at the second is in that at the first
  over_inside : (p q : Path) → Has t p → Has t q → is_over t p q ≡ true
      → number_of t q + size_at t q ≤ number_of t p + size_at t p
  over_inside p q hp hq e =
      let o = over_parts p q e in
      let le = o.0 in
      let less = o.1 in
      ⊎_elim (λ low. (above_range t p q hq (range_above t p q hp hq (omega (arith, low), omega (arith, less)))).1)
      (λ high.
      let numbers : number_of t p ≡ number_of t q = omega (arith, le, high) in
      let same : p ≡ q =
      sym (node_at-number_of t p hp) ∙ ap (node_at t) numbers ∙ node_at-number_of t q hq in
      subst (λ x. number_of t x + size_at t x ≤ number_of t p + size_at t p) same (omega arith))
      (cases_lt (number_of t p) (number_of t q))

  -- what is over a node that is over a third is over that
  pub over_chain : (p q r : Path) → Has t p → Has t q → is_over t p q ≡ true → is_over t q r ≡ true → is_over t p r ≡ true
  over_chain p q r hp hq e f =
      let o = over_parts p q e in
      let k = over_parts q r f in
      let i = over_inside p q hp hq e in
      let a = o.0 in
      let b = k.0 in
      let c = k.1 in
      over_from p r (omega (arith, a, b)) (omega (arith, c, i))

  pub above_over : (p q : Path) → Has t q → Above p q → is_over t p q ≡ true
  above_over p q hq above =
      let a = above_range t p q hq above in
      let low = a.0 in
      let in_it = a.1 in
      over_from p q (omega (arith, low)) (omega (arith, in_it))

module _ (g : AttributeGrammar) (s : Schedule) (t : Forest) (r : Instance) (law : IsLawful g) (once : EachStandsOnce g s)
    (fits : IsTreeOf g t) (step_r : IsStep g t r) where
  there : (i : Instance) → IsStep g t i → Has t (turn_of g i).visit
  there i step = visit_there g s t law once fits 0 i step

  pub near_first : (kind : PassKind) (i j : Instance) → IsStep g t i → IsStep g t j
      → FirstInPass kind (placing_of s) (turn_of g i) (turn_of g j)
      → is_near kind t (turn_of g j).visit (turn_of g r).visit ≡ true
      → is_near kind t (turn_of g i).visit (turn_of g r).visit ≡ true
  near_first topdown i j step_i step_j first near =
      ⊎_elim
      (λ here. subst (λ v. is_over t v (turn_of g r).visit ≡ true) (sym here.0) near)
      (λ above.
      over_chain t (turn_of g i).visit (turn_of g j).visit (turn_of g r).visit (there i step_i) (there j step_j)
      (above_over t (turn_of g i).visit (turn_of g j).visit (there j step_j) above) near) first
  near_first bottomup i j step_i step_j first near =
      ⊎_elim
      (λ here. subst (λ v. is_over t (turn_of g r).visit v ≡ true) (sym here.0) near)
      (λ above.
      over_chain t (turn_of g r).visit (turn_of g j).visit (turn_of g i).visit (there r step_r) (there j step_j) near
      (above_over t (turn_of g j).visit (turn_of g i).visit (there i step_i) above)) first
  near_first inorder i j step_i step_j first near = refl

  pub near_self : (kind : PassKind) → is_near kind t (turn_of g r).visit (turn_of g r).visit ≡ true
  near_self topdown = over_self t (turn_of g r).visit
  near_self bottomup = over_self t (turn_of g r).visit
  near_self inorder = refl

  abbrev pub sooner : Instance → Bool
  sooner i = nat_lt (placing_of s i.attribute).stage (placing_of s r.attribute).stage

  abbrev pub one : Instance → Bool
  one i =
      (placing_of s i.attribute).stage == (placing_of s r.attribute).stage
      && (placing_of s i.attribute).pass == (placing_of s r.attribute).pass

  abbrev pub near : Instance → Bool
  near i = is_near (placing_of s r.attribute).kind t (turn_of g i).visit (turn_of g r).visit

  one_from : (i : Instance) → (placing_of s i.attribute).stage ≡ (placing_of s r.attribute).stage
      → (placing_of s i.attribute).pass ≡ (placing_of s r.attribute).pass → one i ≡ true
  one_from i a b =
      and_from ((placing_of s i.attribute).stage == (placing_of s r.attribute).stage)
      ((placing_of s i.attribute).pass == (placing_of s r.attribute).pass)
      (eq-eqb (placing_of s i.attribute).stage (placing_of s r.attribute).stage a)
      (eq-eqb (placing_of s i.attribute).pass (placing_of s r.attribute).pass b)

  pub one_parts : (i : Instance) → one i ≡ true → ((placing_of s i.attribute).stage ≡ (placing_of s r.attribute).stage)
      × ((placing_of s i.attribute).pass ≡ (placing_of s r.attribute).pass)
  one_parts i e =
      let b = and_parts ((placing_of s i.attribute).stage == (placing_of s r.attribute).stage)
      ((placing_of s i.attribute).pass == (placing_of s r.attribute).pass) e in (
        eqb-true (placing_of s i.attribute).stage (placing_of s r.attribute).stage b.0,
        eqb-true (placing_of s i.attribute).pass (placing_of s r.attribute).pass b.1,
      )

  by_stage : (i : Instance) → (placing_of s i.attribute).stage < (placing_of s r.attribute).stage
      → is_early g (placing_of s) t r i ≡ true
  by_stage i less =
      or_left (sooner i) (one i && near i) (lt-ltb (placing_of s i.attribute).stage (placing_of s r.attribute).stage less)

  pub early_closed : IsClosed g t (MustPrecede g t s) (is_early g (placing_of s) t r)
  early_closed i j step_i step_j first e =
      ⊎_elim
      (λ early.
      let less = ltb-true (placing_of s j.attribute).stage (placing_of s r.attribute).stage early in
      by_stage i
      (⊎_elim (λ l. omega (arith, less, l)) (λ here. let same = here.0.0 in omega (arith, less, same)) first))
      (λ both.
      let b = and_parts (one j) (near j) both in
      let o = one_parts j b.0 in
      ⊎_elim (λ l. by_stage i (let same = o.0 in omega (arith, l, same)))
      (λ here.
      or_right (sooner i) (one i && near i)
      (and_from (one i) (near i) (one_from i (here.0.0 ∙ o.0) (here.0.1 ∙ o.1))
      (near_first (placing_of s r.attribute).kind i j step_i step_j
      (subst (λ k. FirstInPass k (placing_of s) (turn_of g i) (turn_of g j))
      (placing_of-one_kind s j.attribute r.attribute o) here.1) b.1))) first)
      (or_split (sooner j) (one j && near j) e)

  pub early_self : is_early g (placing_of s) t r r ≡ true
  early_self =
      or_right (sooner r) (one r && near r)
      (and_from (one r) (near r) (one_from r refl refl) (near_self (placing_of s r.attribute).kind))
