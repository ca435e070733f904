-- A tree holds the place exactly where one of its nodes is it; so the rounds give the least trees with such a node.
use Rattle.std.proofs.Common.{◌≡◌, ℕ, zero, suc, ◌+◌, ◌==◌, true, false, if◌then◌else◌, refl, sym, ◌∙◌, ap, subst, inl, inr, ⊎_elim, arith, List, Option, Some, eq-eqb}
use Rattle.std.specs.Prelude.{ℤ}
use Rattle.ftl_model.specs.layout.Tree.{Forest, none, tree, IsTree, class_of, below_of, size, from_kid}
use Rattle.ftl_model.specs.layout.Path.{Path, top, down, at}
use Rattle.ftl_model.specs.layout.AttributeGrammar.{AttributeGrammar}
use Rattle.ftl_model.specs.layout.TreeOf.{IsTreeOf}
use Rattle.ftl_example.specs.shows.Bare.{IsBare, bare_inputs}
use Rattle.ftl_example.specs.sizes.Least.{least, HasInterfaces}
use Rattle.ftl_example.specs.sizes.Reach.{reach, HoldsPlace, HasOrHolds, Anything, IsAtMost, AreFewest, AreSizes}
use Rattle.ftl_example.specs.shows.Places.{HasPlace}
use Rattle.ftl_example.proofs.sizes.Built.{built}
use Rattle.ftl_example.proofs.sizes.Fewest.{fewest}
use Rattle.ftl_example.proofs.sizes.Ways.{ways_fewest}
use Rattle.ftl_example.proofs.sizes.WayBuilt.{ways_built}

module _ (P : ℕ → Forest → Type 0) where
  abbrev pub FirstHolds : Forest → Type 0
  FirstHolds none = ⊥
  FirstHolds (tree k d i b s) = HasOrHolds P k b

  tree_holds : (k d : ℕ) (i : List ℤ) (b s : Forest) → HasOrHolds P k b → HoldsPlace P (tree k d i b s)
  tree_holds k d i b s h = ⊎_elim (λ p. inl p) (λ deeper. inr (inl deeper)) h

  pub kid_holds : (c k : ℕ) (f : Forest) → FirstHolds (from_kid c k f) → HoldsPlace P f
  kid_holds c k none h = absurd h
  kid_holds c zero (tree k d i b s) h =
      (elim (d == c) as (λ t. FirstHolds (if t then tree k d i b s else from_kid c zero s) → HoldsPlace P (tree k d i b s))
      [ true ↦ λ h. tree_holds k d i b s h | false ↦ λ h. inr (inr (kid_holds c zero s h)) ]) h
  kid_holds c (suc n) (tree k d i b s) h =
      (elim (d == c) as (λ t. FirstHolds (if t then from_kid c n s else from_kid c (suc n) s) → HoldsPlace P (tree k d i b s))
      [ true ↦ λ h. inr (inr (kid_holds c n s h)) | false ↦ λ h. inr (inr (kid_holds c (suc n) s h)) ]) h

  below_holds : (f : Forest) → HoldsPlace P (below_of f) → FirstHolds f
  below_holds none h = absurd h
  below_holds (tree k d i b s) h = inr h

  holds_from : (t : Forest) (p : Path) → FirstHolds (at t p) → FirstHolds t
  holds_from t top h = h
  holds_from t (down c k p) h = holds_from t p (below_holds (at t p) (kid_holds c k (below_of (at t p)) h))

  is_first : (f : Forest) → IsTree f → P (class_of f) (below_of f) → FirstHolds f
  is_first none h p = absurd h
  is_first (tree k d i b s) h p = inl p

  pub place_holds : (t : Forest) → HasPlace P t → FirstHolds t
  place_holds t h = holds_from t h.0 (is_first (at t h.0) h.1 h.2)

  -- the kids of these trees are kids of the node
  abbrev Inside : Forest → Path → Forest → Type 0
  Inside t q f = (c k : ℕ) → (d : ℕ) × (n : ℕ) × (at t (down d n q) ≡ from_kid c k f)

  at_node : (t : Forest) (p : Path) (k d : ℕ) (i : List ℤ) (b s : Forest) → at t p ≡ tree k d i b s → P k b → HasPlace P t
  at_node t p k d i b s e h =
      (p, subst IsTree (sym e) tt, subst (λ f. P (class_of f) (below_of f)) (sym e) h)

  first_kid : (k d : ℕ) (i : List ℤ) (b s : Forest) → from_kid d 0 (tree k d i b s) ≡ tree k d i b s
  first_kid k d i b s = ap (λ t. if t then tree k d i b s else from_kid d 0 s) (eq-eqb d d refl)

  past : (t : Forest) (q : Path) (k d : ℕ) (i : List ℤ) (b s : Forest) → Inside t q (tree k d i b s) → Inside t q s
  past t q k d i b s inside c n =
      elim (d == c) as (λ v. (d == c ≡ v) → (x : ℕ) × (y : ℕ) × (at t (down x y q) ≡ from_kid c n s)) [
        | true ↦ λ e. let h = inside c (suc n) in (h.0, h.1, h.2 ∙ ap (λ v. if v then from_kid c n s else from_kid c (suc n) s) e)
        | false ↦ λ e. let h = inside c n in (h.0, h.1, h.2 ∙ skip n e)
      ] refl
    where
      skip : (n : ℕ) → d == c ≡ false → from_kid c n (tree k d i b s) ≡ from_kid c n s
      skip zero e = ap (λ v. if v then tree k d i b s else from_kid c zero s) e
      skip (suc n) e = ap (λ v. if v then from_kid c n s else from_kid c (suc n) s) e

  find : (f : Forest) → HoldsPlace P f → (t : Forest) (q : Path) → Inside t q f → HasPlace P t
  find none h t q inside = absurd h
  find (tree k d i b s) h t q inside =
      let here = inside d 0 in
      let p : Path = down here.0 here.1 q in
      let e : at t p ≡ tree k d i b s = here.2 ∙ first_kid k d i b s in
      ⊎_elim (λ is. at_node t p k d i b s e is)
      (λ h. ⊎_elim
      (λ deeper. find b deeper t p (λ c n. (c, n, ap (λ f. from_kid c n (below_of f)) e)))
      (λ later. find s later t q (past t q k d i b s inside)) h) h

  pub holds_place : (t : Forest) → FirstHolds t → HasPlace P t
  holds_place none h = absurd h
  holds_place (tree k d i b s) h =
      ⊎_elim (λ is. (top, tt, is)) (λ deeper. find b deeper (tree k d i b s) top (λ c n. (c, n, refl))) h

module _ (g : AttributeGrammar) (P : ℕ → Forest → Type 0) (start : ℕ → Option ℕ) (count : ℕ)
    (known : HasInterfaces g count) where
  pub all_fewest : AreFewest g Anything (least g count)
  all_fewest i n h =
      let f = fewest g count known h.0 h.1 h.2 h.4 h.5 in
      (f.0, subst (λ j. least g count j ≡ Some f.0) h.3 f.1, (let l = f.2 in let e = h.7 in omega (arith, l, e)))

  pub all_sizes : AreSizes g Anything (least g count)
  all_sizes i n e =
      let b = built g count i n e in (b.class, b.below, b.interface, b.fits, b.fit_below, b.bare, tt, b.nodes)

  pub no_fewer : AreFewest g P start → (t : Forest) → IsTreeOf g t → HasPlace P t
      → IsAtMost (reach g (least g count) start count g.root) (size t)
  no_fewer few none h has = absurd h
  no_fewer few (tree k d i b s) h has =
      let l = ways_fewest g P (least g count) start all_fewest few count known g.root (suc (size b))
      (k, i, b, h.0, h.1, h.2, place_holds P (tree k d i b s) has, refl) in
      (l.0, l.1, (let m = l.2 in omega (arith, m)))

  pub one_so : AreSizes g P start → (n : ℕ) → reach g (least g count) start count g.root ≡ Some n
      → (t : Forest) × IsTreeOf g t × IsBare g t × HasPlace P t × (size t ≡ n)
  one_so sizes n e =
      let w = ways_built g P (least g count) start all_sizes sizes count g.root n e in
      let t : Forest = tree w.0 0 (bare_inputs g w.0) w.1 none in (
        t,
        (w.2, w.3, w.4, refl, refl),
        (refl, w.5, tt),
        holds_place P t w.6,
        (let a = w.7 in let z : suc (size w.1 + 0) ≡ n = omega (arith, a) in z),
      )
