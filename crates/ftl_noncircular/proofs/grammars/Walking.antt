-- Walks, and induction along a relation without closed walks on finitely many.
use Rattle.std.proofs.Common.{◌≡◌, ◌⊎◌, ℕ, zero, suc, ◌+◌, ◌<◌, ◌≤◌, refl, sym, ◌∙◌, ap, subst, inl, inr, ⊎_elim, arith, List, [], ◌∷◌, length, get_or, Contains}
use Rattle.ftl_model.proofs.lists.Elements.{here_in, later_in, in_cases}
use Rattle.ftl_noncircular.specs.grammars.Walks.{WalkOf, Walk}

pub walk_append : {X : Type 0} (edge : X → X → Type 0) (m n k : ℕ) → m + n ≡ k → (x y z : X) → WalkOf edge m x y
    → WalkOf edge n y z → WalkOf edge k x z
walk_append edge zero n k e x y z w v =
    subst (λ l. WalkOf edge l x z) (let q : n ≡ k = omega (arith, e) in q) (subst (λ u. WalkOf edge n u z) (sym w) v)
walk_append edge (suc m) n zero e x y z w v = absurd (let q : ⊥ = omega (arith, e) in q)
walk_append edge (suc m) n (suc k) e x y z w v =
    (w.0, w.1, walk_append edge m n k (omega (arith, e)) w.0 y z w.2 v)

pub walk_last : {X : Type 0} (edge : X → X → Type 0) (m : ℕ) (x y z : X) → WalkOf edge m x y → edge y z
    → WalkOf edge (suc m) x z
walk_last edge zero x y z w e = (z, subst (λ u. edge u z) (sym w) e, refl)
walk_last edge (suc m) x y z w e = (w.0, w.1, walk_last edge m w.0 y z w.2 e)

-- along a map that keeps edges
pub walk_map : {X Y : Type 0} (edge : X → X → Type 0) (other : Y → Y → Type 0) (f : X → Y)
    → ((x y : X) → edge x y → other (f x) (f y)) → (n : ℕ) (x y : X) → WalkOf edge n x y → WalkOf other n (f x) (f y)
walk_map edge other f keeps zero x y w = ap f w
walk_map edge other f keeps (suc n) x y w = (f w.0, keeps x w.0 w.1, walk_map edge other f keeps n w.0 y w.2)

-- what is left without the entry at a place
abbrev pub left_without : {X : Type 0} → ℕ → List X → List X
left_without k [] = []
left_without zero (x ∷ xs) = xs
left_without (suc k) (x ∷ xs) = x ∷ left_without k xs

pub left_fewer : {X : Type 0} (k : ℕ) (xs : List X) → k < length xs → suc (length (left_without k xs)) ≡ length xs
left_fewer k [] h = absurd (let z : ⊥ = omega (arith, h) in z)
left_fewer zero (x ∷ xs) h = refl
left_fewer (suc k) (x ∷ xs) h = ap suc (left_fewer k xs (omega (arith, h)))

pub left_has : {X : Type 0} (k : ℕ) (xs : List X) (v w : X) → k < length xs → get_or xs k v ≡ v → Contains xs w
    → (v ≡ w) ⊎ Contains (left_without k xs) w
left_has k [] v w b e h = inr h
left_has zero (x ∷ xs) v w b e h = ⊎_elim (λ same. inl (sym e ∙ same)) (λ later. inr later) (in_cases x w xs h)
left_has (suc k) (x ∷ xs) v w b e h =
    ⊎_elim (λ same. inr (subst (Contains (x ∷ left_without k xs)) same (here_in x (left_without k xs))))
    (λ later. ⊎_elim (λ same. inl same) (λ old. inr (later_in x w (left_without k xs) old))
    (left_has k xs v w (omega (arith, b)) e later))
    (in_cases x w xs h)

-- what holds of each where it holds of all that lead to it, holds of all, if finitely many count and no walk comes back
module _ {X : Type 0} (edge : X → X → Type 0) (Valid P : X → Type 0)
    (none_back : (x : X) → Valid x → Walk edge x x → ⊥)
    (valid_before : (x y : X) → edge x y → Valid x)
    (step : (y : X) → Valid y → ((x : X) → edge x y → P x) → P y) where
  by_length : (n : ℕ) (rest : List X) → length rest ≤ n → (v : X) → Valid v
      → ((u : X) → Valid u → Contains rest u ⊎ Walk edge v u) → P v
  by_length zero rest few v valid cover =
      absurd
      (⊎_elim (λ h. let b = h.1 in let z : ⊥ = omega (arith, few, b) in z) (λ w. none_back v valid w) (cover v valid))
  by_length (suc n) rest few v valid cover =
      ⊎_elim
      (λ h. step v valid (λ u e.
      by_length n (left_without h.0 rest) (let f = left_fewer h.0 rest h.1 in omega (arith, few, f)) u
      (valid_before u v e)
      (λ w vw. ⊎_elim
      (λ old. ⊎_elim (λ same. inr (0, (v, e, same))) (λ still. inl still) (left_has h.0 rest v w h.1 h.2 old))
      (λ walk. inr (suc walk.0, (v, e, walk.1))) (cover w vw))))
      (λ w. absurd (none_back v valid w)) (cover v valid)

  pub by_walks : (all : List X) → ((u : X) → Valid u → Contains all u) → (v : X) → Valid v → P v
  by_walks all has v valid = by_length (length all) all (omega arith) v valid (λ u vu. inl (has u vu))
