-- What a pair needs whose reader stands in the next pass: its writer is done, or stands in the pass too and the row of
-- the table holds.
use Rattle.std.proofs.Common.{◌≡◌, ℕ, ◌<◌, Bool, true, false, if◌then◌else◌, refl, sym, ◌∙◌, ap₂, inl, inr, ⊎_elim}
use Rattle.std.proofs.Common.{arith, List, Contains}
use Rattle.std.proofs.lemmas.Bool.{false_from_ne_true}
use Rattle.ftl_model.specs.lists.Lists.{is_listed}
use Rattle.ftl_model.proofs.lists.Listed.{is_there, listed}
use Rattle.ftl_model.specs.layout.AttributeGrammar.{Read}
use Rattle.ftl_order.specs.orders.Ordered.{IsOrderedRead, KeyBelow, Row, VisitPlace}
use Rattle.ftl_order.specs.orders.Pairs.{Where, child_class, parent_class, same_class}
use Rattle.ftl_order.specs.orders.Schedule.{PassKind, Placing, bottomup, inorder, topdown}
use Rattle.ftl_order.specs.automatic.Fitting.{placing_after, stage_after}
use Rattle.ftl_order.proofs.automatic.Turns.{cases_in}

-- the stage by two tests
abbrev stage_by : Bool → Bool → ℕ
stage_by d l = if d then 0 else (if l then 1 else 2)

early : (d l : Bool) → stage_by d l < 1 → d ≡ true
early true l h = refl
early false true h = absurd (let z : ⊥ = omega (arith, h) in z)
early false false h = absurd (let z : ⊥ = omega (arith, h) in z)

next : (d l : Bool) → stage_by d l ≡ 1 → l ≡ true
next true true h = refl
next true false h = absurd (let z : ⊥ = omega (arith, h) in z)
next false true h = refl
next false false h = absurd (let z : ⊥ = omega (arith, h) in z)

pub stage_of_done : (done list : List ℕ) (a : ℕ) → Contains done a → stage_after done list a ≡ 0
stage_of_done done list a h = ap₂ stage_by (listed done a h) refl

pub stage_of_next : (done list : List ℕ) (a : ℕ) → (Contains done a → ⊥) → Contains list a → stage_after done list a ≡ 1
stage_of_next done list a out there =
    ap₂ stage_by (false_from_ne_true (is_listed done a) (λ e. out (is_there done a e))) (listed list a there)

-- the writer x of a read of y is done, or stands in the list and the row of the kind holds
pub data Met (done : List ℕ) (kind : PassKind) (list : List ℕ) (runs_at : Where) (r : Read) (x y : VisitPlace) : Type 0 where
  is_done : Contains done x.attribute → Met done kind list runs_at r x y
  in_pass : Contains list x.attribute → Row runs_at kind (placing_after done kind list) r x y
      → Met done kind list runs_at r x y

module _ (done : List ℕ) (kind : PassKind) (list : List ℕ) (runs_at : Where) (r : Read) (x y : VisitPlace)
    (out : Contains done y.attribute → ⊥) (there : Contains list y.attribute) where
  at_next : stage_after done list y.attribute ≡ 1
  at_next = stage_of_next done list y.attribute out there

  pub met : IsOrderedRead (placing_after done kind list) runs_at r x y → Met done kind list runs_at r x y
  met h =
      ⊎_elim
      (λ less. is_done (is_there done x.attribute
      (early (is_listed done x.attribute) (is_listed list x.attribute) (let e = at_next in omega (arith, less, e)))))
      (λ row. in_pass (is_there list x.attribute
      (next (is_listed done x.attribute) (is_listed list x.attribute) (row.0.0 ∙ at_next))) row.1)
      h

  pub of_met : Met done kind list runs_at r x y → IsOrderedRead (placing_after done kind list) runs_at r x y
  of_met (is_done h) = inl (let d = stage_of_done done list x.attribute h in let e = at_next in omega (arith, d, e))
  of_met (in_pass h row) =
      ⊎_elim
      (λ old. inl (let d = stage_of_done done list x.attribute old in let e = at_next in omega (arith, d, e)))
      (λ new. inr ((stage_of_next done list x.attribute new h ∙ sym at_next, refl), row))
      (cases_in done x.attribute)

-- the row holds by other places where the keys stand so
pub row_moves : (runs_at : Where) (kind : PassKind) (p q : Placing) (r : Read) (x y : VisitPlace)
    → (KeyBelow p x y → KeyBelow q x y) → Row runs_at kind p r x y → Row runs_at kind q r x y
row_moves same_class topdown p q r x y keys h = ⊎_elim (λ k. inl (keys k)) (λ rest. inr rest) h
row_moves same_class bottomup p q r x y keys h = ⊎_elim (λ k. inl (keys k)) (λ rest. inr rest) h
row_moves same_class inorder p q r x y keys h =
    ⊎_elim (λ block. inl block)
    (λ rest. inr (rest.0, ⊎_elim (λ k. inl (keys k)) (λ prev. inr prev) rest.1)) h
row_moves parent_class kind p q r x y keys h = h
row_moves child_class kind p q r x y keys h = h

-- a smaller key is enough
pub row_with_key : (runs_at : Where) (kind : PassKind) (p q : Placing) (r : Read) (x y : VisitPlace)
    → KeyBelow q x y → Row runs_at kind p r x y → Row runs_at kind q r x y
row_with_key same_class topdown p q r x y k h = inl k
row_with_key same_class bottomup p q r x y k h = inl k
row_with_key same_class inorder p q r x y k h =
    ⊎_elim (λ block. inl block) (λ rest. inr (rest.0, inl k)) h
row_with_key parent_class kind p q r x y k h = h
row_with_key child_class kind p q r x y k h = h
