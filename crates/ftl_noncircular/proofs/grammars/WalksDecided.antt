-- Along a relation that is decided, on finitely many, it is decided whether a walk leads from one to another.
use Rattle.std.proofs.Common.{◌⊎◌, ℕ, zero, suc, ◌+◌, refl, sym, subst, inl, inr, ⊎_elim, arith, List, [], ◌∷◌, Contains}
use Rattle.ftl_model.proofs.lists.Elements.{in_cases, nothing_in}
use Rattle.ftl_order.proofs.automatic.Choices.{Decided, decided_both}
use Rattle.ftl_noncircular.specs.grammars.Walks.{Walk, WalkOf}
use Rattle.ftl_noncircular.proofs.grammars.Decisions.{decided_as, decided_either}
use Rattle.ftl_noncircular.proofs.grammars.Walking.{walk_append}

pub walk_join : {X : Type 0} (edge : X → X → Type 0) (x y z : X) → Walk edge x y → Walk edge y z → Walk edge x z
walk_join edge x y z w v =
    (w.0 + suc v.0, walk_append edge (suc w.0) (suc v.0) (suc (w.0 + suc v.0)) (omega arith) x y z w.1 v.1)

module _ {X : Type 0} (edge : X → X → Type 0) where
  -- a walk all whose vertices between are of a list
  abbrev pub Via : List X → X → X → Type 0
  Via [] x y = edge x y
  Via (p ∷ ps) x y = Via ps x y ⊎ (Via ps x p × Via ps p y)

  decided_via : ((x y : X) → Decided (edge x y)) → (ps : List X) (x y : X) → Decided (Via ps x y)
  decided_via d [] x y = d x y
  decided_via d (p ∷ ps) x y =
      decided_either (decided_via d ps x y) (decided_both (decided_via d ps x p) (decided_via d ps p y))

  via_walk : (ps : List X) (x y : X) → Via ps x y → Walk edge x y
  via_walk [] x y e = (0, (y, e, refl))
  via_walk (p ∷ ps) x y h =
      ⊎_elim (λ w. via_walk ps x y w) (λ w. walk_join edge x p y (via_walk ps x p w.0) (via_walk ps p y w.1)) h

  edge_via : (ps : List X) (x y : X) → edge x y → Via ps x y
  edge_via [] x y e = e
  edge_via (p ∷ ps) x y e = inl (edge_via ps x y e)

  via_join : (ps : List X) (p : X) → Contains ps p → (x y : X) → Via ps x p → Via ps p y → Via ps x y
  via_join [] p h x y a b = absurd (nothing_in p h)
  via_join (q ∷ qs) p h x y a b =
      ⊎_elim
      (λ same.
      let first : Via (q ∷ qs) x q = subst (λ v. Via (q ∷ qs) x v) (sym same) a in
      let second : Via (q ∷ qs) q y = subst (λ v. Via (q ∷ qs) v y) (sym same) b in
      inr (⊎_elim (λ w. w) (λ w. w.0) first, ⊎_elim (λ w. w) (λ w. w.1) second))
      (λ later.
      ⊎_elim
      (λ near. ⊎_elim (λ far. inl (via_join qs p later x y near far))
      (λ far. inr (via_join qs p later x q near far.0, far.1)) b)
      (λ near. ⊎_elim (λ far. inr (near.0, via_join qs p later q y near.1 far))
      (λ far. inr (near.0, far.1)) b)
      a)
      (in_cases q p qs h)

  walk_via : (all : List X) → ((x y : X) → edge x y → Contains all y) → (n : ℕ) (x y : X) → WalkOf edge (suc n) x y
      → Via all x y
  walk_via all has zero x y w = edge_via all x y (subst (edge x) w.2 w.1)
  walk_via all has (suc n) x y w =
      via_join all w.0 (has x w.0 w.1) x y (edge_via all x w.0 w.1) (walk_via all has n w.0 y w.2)

  pub decided_walk : ((x y : X) → Decided (edge x y)) → (all : List X) → ((x y : X) → edge x y → Contains all y)
      → (x y : X) → Decided (Walk edge x y)
  decided_walk d all has x y =
      decided_as (λ v. via_walk all x y v) (λ w. walk_via all has w.0 x y w.1) (decided_via d all x y)
