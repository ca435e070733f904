-- Must precede is transitive, and decided.
use Rattle.std.proofs.Common.{◌≡◌, ◌⊎◌, ℕ, zero, suc, ◌<◌, ◌≤◌, refl, sym, ◌∙◌, ap, subst, inl, inr, ⊎_elim, arith, List, [], ◌∷◌}
use Rattle.std.proofs.lemmas.Bool.{cases_lt}
use native.Mathlib.Decide.{ℕ_discrete}
use Rattle.ftl_model.specs.lists.Lists.{Before}
use Rattle.ftl_model.specs.layout.Path.{Above, Path, down, top}
use Rattle.ftl_order.specs.orders.LegalOrder.{FirstInPass, KeyFirst, Turn, TurnPrecedes, address}
use Rattle.ftl_order.specs.orders.Ordered.{IsSameRule, KeyBelow, VisitPlace}
use Rattle.ftl_order.specs.orders.Schedule.{IsOnePass, PassKind, Placing, bottomup, inorder, topdown}

-- the attributes of one pass are of one kind of pass
abbrev pub HasOneKind : Placing → Type 0
HasOneKind at = (a b : ℕ) → IsOnePass (at a) (at b) → (at a).kind ≡ (at b).kind

-- ---- transitive

before_chain : (xs ys zs : List ℕ) → Before xs ys → Before ys zs → Before xs zs
before_chain [] ys zs h k = absurd h
before_chain (x ∷ xs) [] zs h k = absurd h
before_chain (x ∷ xs) (y ∷ ys) [] h k = absurd k
before_chain (x ∷ xs) (y ∷ ys) (z ∷ zs) h k =
    ⊎_elim
    (λ less. ⊎_elim (λ more. inl (let q : x < z = omega (arith, less, more) in q))
    (λ same. let e = same.0 in inl (let q : x < z = omega (arith, less, e) in q)) k)
    (λ one.
    let d = one.0 in
    ⊎_elim (λ more. inl (let q : x < z = omega (arith, d, more) in q))
    (λ same. inr (one.0 ∙ same.0, before_chain xs ys zs one.1 same.1)) k)
    h

above_chain : (p q r : Path) → Above p q → Above q r → Above p r
above_chain p q top h k = absurd k
above_chain p q (down c n r) h k =
    ⊎_elim (λ same. inr (subst (Above p) same h)) (λ higher. inr (above_chain p q r h higher)) k

key_chain : (at : Placing) (x y z : VisitPlace) → KeyBelow at x y → KeyBelow at y z → KeyBelow at x z
key_chain at x y z h k =
    ⊎_elim
    (λ less. ⊎_elim (λ more. inl (let q : (at x.attribute).index < (at z.attribute).index = omega (arith, less, more) in q))
    (λ same. let e = same.0 in inl (let q : (at x.attribute).index < (at z.attribute).index = omega (arith, less, e) in q)) k)
    (λ one.
    let d = one.0 in
    let first = one.1 in
    ⊎_elim (λ more. inl (let q : (at x.attribute).index < (at z.attribute).index = omega (arith, d, more) in q))
    (λ same.
    let second = same.1 in
    inr (d ∙ same.0, (let q : x.child < z.child = omega (arith, first, second) in q))) k)
    h

-- the same rule has the same key
key_after : (at : Placing) (x y z : VisitPlace) → IsSameRule x y → KeyBelow at y z → KeyBelow at x z
key_after at x y z same h =
    let index : (at x.attribute).index ≡ (at y.attribute).index = ap (λ a. (at a).index) same.0 in
    let child = same.1 in
    ⊎_elim (λ less. inl (let q : (at x.attribute).index < (at z.attribute).index = omega (arith, less, index) in q))
    (λ one. let less = one.1 in inr (index ∙ one.0, (let q : x.child < z.child = omega (arith, less, child) in q))) h

key_before : (at : Placing) (x y z : VisitPlace) → KeyBelow at x y → IsSameRule y z → KeyBelow at x z
key_before at x y z h same =
    let index : (at y.attribute).index ≡ (at z.attribute).index = ap (λ a. (at a).index) same.0 in
    let child = same.1 in
    ⊎_elim (λ less. inl (let q : (at x.attribute).index < (at z.attribute).index = omega (arith, less, index) in q))
    (λ one. let less = one.1 in inr (one.0 ∙ index, (let q : x.child < z.child = omega (arith, less, child) in q))) h

key_first_chain : (at : Placing) (x y z : Turn) → KeyFirst at x y → KeyFirst at y z → KeyFirst at x z
key_first_chain at x y z h k =
    ⊎_elim
    (λ key. ⊎_elim (λ next. inl (key_chain at x.rule y.rule z.rule key next))
    (λ same. inl (key_before at x.rule y.rule z.rule key same.0)) k)
    (λ one.
    let first = one.1 in
    ⊎_elim (λ next. inl (key_after at x.rule y.rule z.rule one.0 next))
    (λ same.
    let second = same.1 in
    inr ((one.0.0 ∙ same.0.0, one.0.1 ∙ same.0.1), (let q : x.kid < z.kid = omega (arith, first, second) in q))) k)
    h

-- two steps of a pass that goes by visits, of which those above come first, or those below
module _ (Higher : Path → Path → Type 0) (chain : (p q r : Path) → Higher p q → Higher q r → Higher p r) where
  abbrev ByVisit : Placing → Turn → Turn → Type 0
  ByVisit at x y = ((x.visit ≡ y.visit) × KeyFirst at x y) ⊎ Higher x.visit y.visit

  visit_chain : (at : Placing) (x y z : Turn) → ByVisit at x y → ByVisit at y z → ByVisit at x z
  visit_chain at x y z h k =
      ⊎_elim
      (λ here. ⊎_elim (λ next. inl (here.0 ∙ next.0, key_first_chain at x y z here.1 next.1))
      (λ higher. inr (subst (λ p. Higher p z.visit) (sym here.0) higher)) k)
      (λ higher. ⊎_elim (λ next. inr (subst (Higher x.visit) next.0 higher))
      (λ more. inr (chain x.visit y.visit z.visit higher more)) k)
      h

first_chain : (kind : PassKind) (at : Placing) (x y z : Turn) → FirstInPass kind at x y → FirstInPass kind at y z
    → FirstInPass kind at x z
first_chain topdown at x y z = visit_chain Above above_chain at x y z
first_chain bottomup at x y z = visit_chain (λ p q. Above q p) (λ p q r h k. above_chain r q p k h) at x y z
first_chain inorder at x y z = before_chain (address at x) (address at y) (address at z)

pub precede_chain : (at : Placing) → HasOneKind at → (x y z : Turn) → TurnPrecedes at x y → TurnPrecedes at y z
    → TurnPrecedes at x z
precede_chain at one_kind x y z h k =
    ⊎_elim
    (λ less. ⊎_elim
    (λ more. inl (let q : (at x.rule.attribute).stage < (at z.rule.attribute).stage = omega (arith, less, more) in q))
    (λ next. let e = next.0.0 in
    inl (let q : (at x.rule.attribute).stage < (at z.rule.attribute).stage = omega (arith, less, e) in q)) k)
    (λ here.
    let d = here.0.0 in
    ⊎_elim
    (λ more. inl (let q : (at x.rule.attribute).stage < (at z.rule.attribute).stage = omega (arith, d, more) in q))
    (λ next. inr (
      (here.0.0 ∙ next.0.0, here.0.1 ∙ next.0.1),
      first_chain (at z.rule.attribute).kind at x y z
          (subst (λ kind. FirstInPass kind at x y) (one_kind y.rule.attribute z.rule.attribute next.0) here.1) next.1,
    )) k)
    h

-- ---- decided

abbrev pub Decided : Type 0 → Type 0
Decided P = P ⊎ (P → ⊥)

either : {P Q : Type 0} → Decided P → Decided Q → Decided (P ⊎ Q)
either (inl p) q = inl (inl p)
either (inr no_p) (inl q) = inl (inr q)
either (inr no_p) (inr no_q) = inr (λ h. ⊎_elim no_p no_q h)

both : {P Q : Type 0} → Decided P → Decided Q → Decided (P × Q)
both (inl p) (inl q) = inl (p, q)
both (inl p) (inr no_q) = inr (λ h. no_q h.1)
both (inr no_p) q = inr (λ h. no_p h.0)

less_decided : (m n : ℕ) → Decided (m < n)
less_decided m n =
    ⊎_elim (λ less. inl less) (λ more. inr (λ less. omega (arith, more, less))) (cases_lt m n)

equal_decided : (m n : ℕ) → Decided (m ≡ n)
equal_decided m n = go (ℕ_discrete m n)
  where
    go : Dec (m ≡ n) → Decided (m ≡ n)
    go (yes e) = inl e
    go (no differ) = inr differ

down_parts : (c k d n : ℕ) (p q : Path) → down c k p ≡ down d n q → (c ≡ d) × ((k ≡ n) × (p ≡ q))
down_parts c k d n p q e = (cc e, (cc e, cc e))

path_decided : (p q : Path) → Decided (p ≡ q)
path_decided top top = inl refl
path_decided top (down d n q) = inr (λ e. (let z : ⊥ = grind (arith, e) in z))
path_decided (down c k p) top = inr (λ e. (let z : ⊥ = grind (arith, e) in z))
path_decided (down c k p) (down d n q) =
    ⊎_elim (λ same. inl (ap (λ x. down x k p) same.0 ∙ ap (λ x. down d x p) same.1.0 ∙ ap (down d n) same.1.1))
    (λ differ. inr (λ e. differ (down_parts c k d n p q e)))
    (both (equal_decided c d) (both (equal_decided k n) (path_decided p q)))

above_decided : (p q : Path) → Decided (Above p q)
above_decided p top = inr (λ h. h)
above_decided p (down c k q) = either (path_decided p q) (above_decided p q)

before_decided : (xs ys : List ℕ) → Decided (Before xs ys)
before_decided [] ys = inr (λ h. h)
before_decided (x ∷ xs) [] = inr (λ h. h)
before_decided (x ∷ xs) (y ∷ ys) =
    either (less_decided x y) (both (equal_decided x y) (before_decided xs ys))

key_first_decided : (at : Placing) (x y : Turn) → Decided (KeyFirst at x y)
key_first_decided at x y =
    either
    (either (less_decided (at x.rule.attribute).index (at y.rule.attribute).index)
    (both (equal_decided (at x.rule.attribute).index (at y.rule.attribute).index)
    (less_decided x.rule.child y.rule.child)))
    (both (both (equal_decided x.rule.attribute y.rule.attribute) (equal_decided x.rule.child y.rule.child))
    (less_decided x.kid y.kid))

first_decided : (kind : PassKind) (at : Placing) (x y : Turn) → Decided (FirstInPass kind at x y)
first_decided topdown at x y =
    either (both (path_decided x.visit y.visit) (key_first_decided at x y)) (above_decided x.visit y.visit)
first_decided bottomup at x y =
    either (both (path_decided x.visit y.visit) (key_first_decided at x y)) (above_decided y.visit x.visit)
first_decided inorder at x y = before_decided (address at x) (address at y)

pub precede_decided : (at : Placing) (x y : Turn) → Decided (TurnPrecedes at x y)
precede_decided at x y =
    either (less_decided (at x.rule.attribute).stage (at y.rule.attribute).stage)
    (both
    (both (equal_decided (at x.rule.attribute).stage (at y.rule.attribute).stage)
    (equal_decided (at x.rule.attribute).pass (at y.rule.attribute).pass))
    (first_decided (at y.rule.attribute).kind at x y))
