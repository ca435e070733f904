-- The items of a pass with a nest are of three sorts.
use Rattle.std.proofs.Common.{◌≡◌, ◌⊎◌, ℕ, ◌<◌, ◌≤◌, ◌==◌, Bool, true, false, if◌then◌else◌, leb-true, leb-false, refl, sym, ap, subst, inl, inr, ⊎_elim, arith, eqb-true, eq-eqb, [], ◌∷◌, Option, None, Some}
use Rattle.ftl_model.specs.layout.AttributeGrammar.{AttributeGrammar}
use Rattle.ftl_model.specs.layout.Path.{Above, AtOrAbove, Has, Path, class_at, down, size_at, top}
use Rattle.ftl_model.specs.layout.Tree.{Forest}
use Rattle.ftl_model.specs.layout.TreeOf.{IsTreeOf}
use Rattle.ftl_items.specs.stage_items.Cut.{begins_by, is_open, is_small, nodes_by, subtree}
use Rattle.ftl_items.proofs.stage_items.Homes.{all_open, begins-home, home, home-above, open_all, whole_home}
use Rattle.ftl_nests.specs.NestItems.{is_whole_with}
use Rattle.ftl_nests.specs.Nests.{Nest}
use Rattle.ftl_nests.specs.Region.{IsClosed}
use Rattle.ftl_nests.specs.WorkLaws.{IsHostItem, IsHostOf, IsNodeItem, IsSmallItem}
use Rattle.ftl_nests.proofs.RegionNodes.{host_in_host}

small_is : (t : Forest) (grain : ℕ) (p : Path) → size_at t p ≤ grain → is_small t grain p ≡ true
small_is t grain p h =
    elim (is_small t grain p) as (λ b. (is_small t grain p ≡ b) → b ≡ true)
    [ true ↦ λ e. refl | false ↦ λ e. absurd (let l = leb-false (size_at t p) grain e in let z : ⊥ = omega (arith, l, h) in z) ]
    refl

-- a tree that is one item is small, or a host's
whole_cases : (nest : Option Nest) (t : Forest) (grain : ℕ) (p : Path) → is_whole_with nest t grain p ≡ true
    → (size_at t p ≤ grain) ⊎ ((grain < size_at t p) × IsHostOf nest t p)
whole_cases None t grain p e = inl (leb-true (size_at t p) grain e)
whole_cases (Some nest) t grain p e =
    elim (is_small t grain p) as
    (λ b. (is_small t grain p ≡ b) → (if b then true else class_at t p == nest.host) ≡ true
    → (size_at t p ≤ grain) ⊎ ((grain < size_at t p) × (class_at t p ≡ nest.host))) [
      | true ↦ λ f e. inl (leb-true (size_at t p) grain f)
      | false ↦ λ f e. inr (leb-false (size_at t p) grain f, eqb-true (class_at t p) nest.host e)
    ]
    refl e

small_whole : (nest : Option Nest) (t : Forest) (grain : ℕ) (p : Path) → size_at t p ≤ grain
    → is_whole_with nest t grain p ≡ true
small_whole None t grain p h = small_is t grain p h
small_whole (Some nest) t grain p h = ap (λ b. if b then true else class_at t p == nest.host) (small_is t grain p h)

host_whole : (nest : Option Nest) (t : Forest) (grain : ℕ) (p : Path) → IsHostOf nest t p
    → is_whole_with nest t grain p ≡ true
host_whole None t grain p h = absurd h
host_whole (Some nest) t grain p h =
    elim (is_small t grain p) as (λ b. (if b then true else class_at t p == nest.host) ≡ true)
    [ true ↦ refl | false ↦ eq-eqb (class_at t p) nest.host h ]

bool_cases : (b : Bool) → (b ≡ true) ⊎ (b ≡ false)
bool_cases true = inl refl
bool_cases false = inr refl

module _ (g : AttributeGrammar) (t : Forest) (fits : IsTreeOf g t) (grain : ℕ) (nest : Option Nest)
    (closed : (n : Nest) → nest ≡ Some n → IsClosed g n.host) where
  abbrev w : Path → Bool
  w = is_whole_with nest t grain

  -- no host is above another
  no_host_above : (q p : Path) → Has t p → Above q p → IsHostOf nest t q → IsHostOf nest t p → ⊥
  no_host_above q p there above hq hp = go nest refl hq hp
    where
      go : (o : Option Nest) → nest ≡ o → IsHostOf o t q → IsHostOf o t p → ⊥
      go None e hq hp = hq
      go (Some n) e hq hp = host_in_host g t fits n.host (closed n e) q p there hq hp above

  differ : {X : Type 0} (b : Bool) → b ≡ true → b ≡ false → X
  differ true e f = absurd (let z : ⊥ = grind arith in z)
  differ false e f = absurd (let z : ⊥ = grind arith in z)

  -- where an item begins, no tree above is whole
  begins_no_whole : (p : Path) → begins_by w p ≡ true → (q : Path) → Above q p → w q ≡ false
  begins_no_whole top e q above = absurd above
  begins_no_whole (down c k p) e q above = open_all w p e q above

  no_whole_begins : (p : Path) → ((q : Path) → Above q p → w q ≡ false) → begins_by w p ≡ true
  no_whole_begins top h = refl
  no_whole_begins (down c k p) h = all_open w p h

  not_small : (q : Path) → w q ≡ false → (size_at t q ≤ grain) → ⊥
  not_small q e h = differ (w q) (small_whole nest t grain q h) e

  not_host : (q : Path) → w q ≡ false → IsHostOf nest t q → ⊥
  not_host q e h = differ (w q) (host_whole nest t grain q h) e

  large : (q : Path) → w q ≡ false → grain < size_at t q
  large q e =
      ⊎_elim (λ s. absurd (not_small q e (leb-true (size_at t q) grain s))) (λ l. leb-false (size_at t q) grain l)
      (bool_cases (is_small t grain q))

  -- what is small where an item begins
  small_item : (p : Path) → begins_by w p ≡ true → size_at t p ≤ grain → IsSmallItem nest t grain p
  small_item p e small = (small, (λ q above. let f = begins_no_whole p e q above in (large q f, not_host q f)))

  -- no small item is at or above, where an item begins and the tree is not small
  none_small : (p : Path) → begins_by w p ≡ true → grain < size_at t p → (q : Path) → AtOrAbove q p
      → IsSmallItem nest t grain q → ⊥
  none_small p e big q (inl same) x =
      let s = x.0 in let b = subst (λ r. grain < size_at t r) (sym same) big in omega (arith, s, b)
  none_small p e big q (inr above) x = not_small q (begins_no_whole p e q above) x.0

  host_item : (p : Path) → begins_by w p ≡ true → grain < size_at t p → IsHostOf nest t p → IsHostItem nest t grain p
  host_item p e big h = (h, none_small p e big)

  pub sort_of : (p : Path) → begins_by w p ≡ true
      → IsSmallItem nest t grain p ⊎ (IsHostItem nest t grain p ⊎ IsNodeItem nest t grain p)
  sort_of p e =
      ⊎_elim
      (λ whole.
      ⊎_elim (λ small. inl (small_item p e small)) (λ host. inr (inl (host_item p e host.0 host.1)))
      (whole_cases nest t grain p whole))
      (λ free. inr (inr (λ q at_or_above sort.
      let f : w q ≡ false =
      ⊎_elim (λ same. subst (λ r. w r ≡ false) (sym same) free) (λ above. begins_no_whole p e q above) at_or_above in
      ⊎_elim (λ x. not_small q f x.0) (λ y. not_host q f y.0) sort)))
      (bool_cases (w p))

  -- the item that a whole tree above is in is of one of the first two sorts
  whole_item : (p : Path) → is_open w p ≡ false → (IsSmallItem nest t grain (home w p) ⊎ IsHostItem nest t grain (home w p))
  whole_item p e =
      let first = begins-home w p in
      ⊎_elim (λ small. inl (small_item (home w p) first small))
      (λ host. inr (host_item (home w p) first host.0 host.1)) (whole_cases nest t grain (home w p) (whole_home w p e))

  begins_or : (p : Path) → (begins_by w p ≡ true)
      ⊎ ((q : Path) × Above q p × (IsSmallItem nest t grain q ⊎ IsHostItem nest t grain q))
  begins_or top = inl refl
  begins_or (down c k p) =
      ⊎_elim (λ e. inl e) (λ e. inr (home w p, home-above w p, whole_item p e)) (bool_cases (is_open w p))

  pub sort_begins : (p : Path) → Has t p
      → IsSmallItem nest t grain p ⊎ (IsHostItem nest t grain p ⊎ IsNodeItem nest t grain p)
      → begins_by w p ≡ true
  sort_begins p there (inl small) =
      ⊎_elim (λ e. e)
      (λ up.
      absurd
      (⊎_elim
      (λ x. let b = (small.1 up.0 up.1).0 in let s = x.0 in let z : ⊥ = omega (arith, b, s) in z)
      (λ y. (small.1 up.0 up.1).1 y.0) up.2))
      (begins_or p)
  sort_begins p there (inr (inl host)) =
      ⊎_elim (λ e. e)
      (λ up.
      absurd
      (⊎_elim (λ x. host.1 up.0 (inr up.1) x) (λ y. no_host_above up.0 p there up.1 y.0 host.0) up.2))
      (begins_or p)
  sort_begins p there (inr (inr node)) =
      ⊎_elim (λ e. e) (λ up. absurd (node up.0 (inr up.1) up.2)) (begins_or p)

  pub whole_nodes : (p : Path) → w p ≡ true → nodes_by w t p ≡ subtree t p
  whole_nodes p e = ap (λ b. if b then subtree t p else p ∷ []) e

  pub small_nodes : (p : Path) → IsSmallItem nest t grain p → nodes_by w t p ≡ subtree t p
  small_nodes p x = whole_nodes p (small_whole nest t grain p x.0)

  pub host_nodes : (p : Path) → IsHostItem nest t grain p → nodes_by w t p ≡ subtree t p
  host_nodes p x = whole_nodes p (host_whole nest t grain p x.0)

  pub node_nodes : (p : Path) → Has t p → IsNodeItem nest t grain p → nodes_by w t p ≡ p ∷ []
  node_nodes p there x =
      let first = sort_begins p there (inr (inr x)) in
      ap (λ b. if b then subtree t p else p ∷ [])
      (⊎_elim
      (λ whole.
      absurd
      (⊎_elim (λ small. x p (inl refl) (inl (small_item p first small)))
      (λ host. x p (inl refl) (inr (host_item p first host.0 host.1))) (whole_cases nest t grain p whole)))
      (λ free. free) (bool_cases (w p)))

  -- what is open is of the third sort
  pub open_node : (p : Path) → is_open w p ≡ true → IsNodeItem nest t grain p
  open_node p e = λ q at_or_above sort.
      let f = open_all w p e q at_or_above in
      ⊎_elim (λ x. not_small q f x.0) (λ y. not_host q f y.0) sort
