-- The item in which a node lies, for any test of the nodes that are one item with all below them.
use Rattle.std.proofs.Common.{◌≡◌, ◌⊎◌, Bool, true, false, not, if◌then◌else◌, refl, sym, ◌∙◌, ap, subst, inl, inr, ⊎_elim, arith, [], ◌∷◌, Contains}
use Rattle.ftl_model.proofs.lists.Elements.{here_in, in_cases, nothing_in}
use Rattle.ftl_model.specs.layout.Path.{AtOrAbove, Has, Path, down, top}
use Rattle.ftl_model.specs.layout.Tree.{Forest}
use Rattle.ftl_model.proofs.layout.Standing.{has_parent}
use Rattle.ftl_items.specs.stage_items.Cut.{begins_by, is_open, nodes_by, subtree}
use Rattle.ftl_items.proofs.stage_items.Subtrees.{in_subtree, subtree_has}

pub has_above : (t : Forest) (q p : Path) → Has t p → AtOrAbove q p → Has t q
has_above t q p h (inl same) = subst (Has t) (sym same) h
has_above t q top h (inr above) = absurd above
has_above t q (down c k p) h (inr above) = has_above t q p (has_parent t c k p h) above

module _ (is_whole : Path → Bool) where
  -- the node at which the item of a node begins
  abbrev pub home : Path → Path
  home top = top
  home (down child kid above) = if is_open is_whole above then down child kid above else home above

  pub open_all : (p : Path) → is_open is_whole p ≡ true → (q : Path) → AtOrAbove q p → is_whole q ≡ false
  open_all top e q (inl same) = subst (λ r. is_whole r ≡ false) (sym same) (turned (is_whole top) e)
    where
      turned : (b : Bool) → not b ≡ true → b ≡ false
      turned true e = absurd (let z : ⊥ = grind arith in z)
      turned false e = refl
  open_all top e q (inr above) = absurd above
  open_all (down c k p) e q h =
      elim (is_whole (down c k p)) as
      (λ b. (is_whole (down c k p) ≡ b) → (if b then false else is_open is_whole p) ≡ true → is_whole q ≡ false) [
        | true ↦ λ f e. absurd (let z : ⊥ = grind arith in z)
        | false ↦ λ f e.
            ⊎_elim (λ same. subst (λ r. is_whole r ≡ false) (sym same) f) (λ above. open_all p e q above) h
      ]
      refl e

  pub all_open : (p : Path) → ((q : Path) → AtOrAbove q p → is_whole q ≡ false) → is_open is_whole p ≡ true
  all_open top h = ap not (h top (inl refl))
  all_open (down c k p) h =
      ap (λ b. if b then false else is_open is_whole p) (h (down c k p) (inl refl))
      ∙ all_open p (λ q above. h q (inr above))

  pub whole_home : (p : Path) → is_open is_whole p ≡ false → is_whole (home p) ≡ true
  whole_home top e = turned (is_whole top) e
    where
      turned : (b : Bool) → not b ≡ false → b ≡ true
      turned true e = refl
      turned false e = absurd (let z : ⊥ = grind arith in z)
  whole_home (down c k p) e =
      elim (is_open is_whole p) as
      (λ b. (is_open is_whole p ≡ b) → (if is_whole (down c k p) then false else b) ≡ false
      → is_whole (if b then down c k p else home p) ≡ true) [
        | true ↦ λ f e. turned (is_whole (down c k p)) e
        | false ↦ λ f e. whole_home p f
      ]
      refl e
    where
      turned : (b : Bool) → (if b then false else true) ≡ false → b ≡ true
      turned true e = refl
      turned false e = absurd (let z : ⊥ = grind arith in z)

  pub begins-home : (p : Path) → begins_by is_whole (home p) ≡ true
  begins-home top = refl
  begins-home (down c k p) =
      elim (is_open is_whole p) as
      (λ b. (is_open is_whole p ≡ b) → begins_by is_whole (if b then down c k p else home p) ≡ true)
      [ true ↦ λ e. e | false ↦ λ e. begins-home p ]
      refl

  pub home-above : (p : Path) → AtOrAbove (home p) p
  home-above top = inl refl
  home-above (down c k p) =
      elim (is_open is_whole p) as (λ b. AtOrAbove (if b then down c k p else home p) (down c k p))
      [ true ↦ inl refl | false ↦ inr (home-above p) ]

  -- an item begins at the home of a node, which is whole or the node itself
  pub whole_or_self : (p : Path) → (is_whole (home p) ≡ true) ⊎ (home p ≡ p)
  whole_or_self top = inr refl
  whole_or_self (down c k p) =
      elim (is_open is_whole p) as
      (λ b. (is_open is_whole p ≡ b)
      → (is_whole (if b then down c k p else home p) ≡ true) ⊎ ((if b then down c k p else home p) ≡ down c k p))
      [ true ↦ λ e. inr refl | false ↦ λ e. inl (whole_home p e) ]
      refl

  -- where neither a node nor one above it is whole, an item begins at the node
  pub open_begins : (p : Path) → is_open is_whole p ≡ true → begins_by is_whole p ≡ true
  open_begins top e = refl
  open_begins (down c k p) e =
      elim (is_whole (down c k p)) as
      (λ b. (if b then false else is_open is_whole p) ≡ true → is_open is_whole p ≡ true)
      [ true ↦ λ e. absurd (let z : ⊥ = grind arith in z) | false ↦ λ e. e ] e

  -- and each is its own home
  pub open_home : (p : Path) → is_open is_whole p ≡ true → home p ≡ p
  open_home p e =
      ⊎_elim
      (λ whole. absurd
      (let f = open_all p e (home p) (home-above p) in
      let z : ⊥ = grind arith in
      z))
      (λ same. same) (whole_or_self p)

  -- a node at which an item begins is its own home
  pub own_home : (p : Path) → begins_by is_whole p ≡ true → home p ≡ p
  own_home top e = refl
  own_home (down c k p) e = ap (λ b. if b then down c k p else home p) e

  -- below a whole node at which an item begins, that node is home
  pub home_below : (r p : Path) → begins_by is_whole r ≡ true → is_whole r ≡ true → AtOrAbove r p → home p ≡ r
  home_below r p e w (inl same) = subst (λ q. home q ≡ r) same (own_home r e)
  home_below r top e w (inr above) = absurd above
  home_below r (down c k p) e w (inr above) =
      elim (is_open is_whole p) as
      (λ b. (is_open is_whole p ≡ b) → (if b then down c k p else home p) ≡ r) [
        | true ↦ λ f. absurd (let g = open_all p f r above in let z : ⊥ = grind arith in z)
        | false ↦ λ f. home_below r p e w above
      ]
      refl

  module _ (t : Forest) where
    pub first_in : (p : Path) → Contains (nodes_by is_whole t p) p
    first_in p =
        elim (is_whole p) as (λ b. Contains (if b then subtree t p else p ∷ []) p)
        [ true ↦ here_in p _ | false ↦ here_in p [] ]

    pub home_holds : (p : Path) → Has t p → Contains (nodes_by is_whole t (home p)) p
    home_holds p h =
        ⊎_elim
        (λ whole. subst (λ b. Contains (if b then subtree t (home p) else home p ∷ []) p) (sym whole)
        (subtree_has t (home p) p h (home-above p)))
        (λ same. subst (λ q. Contains (nodes_by is_whole t q) p) (sym same) (first_in p)) (whole_or_self p)

    -- a node of an item lies below its whole first node, or is that node
    pub held_by : (r p : Path) → Has t r → Contains (nodes_by is_whole t r) p
        → (r ≡ p) ⊎ ((is_whole r ≡ true) × AtOrAbove r p × Has t p)
    held_by r p h held =
        elim (is_whole r) as
        (λ b. (is_whole r ≡ b) → Contains (if b then subtree t r else r ∷ []) p
        → (r ≡ p) ⊎ ((is_whole r ≡ true) × AtOrAbove r p × Has t p)) [
          | true ↦ λ e held. let i = in_subtree t r p h held in inr (e, i.0, i.1)
          | false ↦ λ e held. ⊎_elim (λ same. inl same) (λ none. absurd (nothing_in p none)) (in_cases r p [] held)
        ]
        refl held

    pub has_held : (r p : Path) → Has t r → Contains (nodes_by is_whole t r) p → Has t p
    has_held r p h held = ⊎_elim (λ same. subst (Has t) same h) (λ i. i.2) (held_by r p h held)

    pub only_home : (r p : Path) → Has t r → begins_by is_whole r ≡ true → Contains (nodes_by is_whole t r) p
        → home p ≡ r
    only_home r p h e held =
        ⊎_elim (λ same. subst (λ q. home q ≡ r) same (own_home r e))
        (λ i. home_below r p e i.0 i.1) (held_by r p h held)
