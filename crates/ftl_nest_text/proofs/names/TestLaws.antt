-- The tests of a lawful grammar tell of its regions.
use Rattle.std.proofs.Common.{◌≡◌, ◌⊎◌, ℕ, zero, suc, ◌<◌, ◌==◌, ◌&&◌, Bool, true, false, not, refl, sym, ap}
use Rattle.std.proofs.Common.{subst, inl, inr, arith, eqb-true, eq-eqb, List, [], ◌∷◌, Contains}
use Rattle.std.specs.List.{list_any, range_with_len}
use Rattle.std.proofs.lemmas.Bool.{and_from, and_parts, cases_lt, or_cases, or_left, or_right}
use Rattle.ftl_model.specs.lists.Lists.{is_listed}
use Rattle.ftl_model.specs.layout.AttributeGrammar.{AttributeGrammar}
use Rattle.ftl_model.proofs.lists.Elements.{here_in, in_cases, in_range_from, later_in, nothing_in, range_has}
use Rattle.ftl_model.proofs.lists.Listed.{is_there, listed}
use Rattle.ftl_order.specs.orders.Lawful.{IsLawful}
use Rattle.ftl_nests.specs.Region.{HasChildOf, InRegion, IsClosed, Leads, OfRegion}
use Rattle.ftl_nest_text.specs.names.RegionTests.{Tell, any_below, has_child, has_other_parent, is_closed_host}
use Rattle.ftl_nest_text.specs.names.RegionTests.{is_in_region, is_of_region, is_step, leads, may_have, region_tests}

-- ---- tests

no_truth : false ≡ true → ⊥
no_truth e = cc

pub not_true : (b : Bool) → not b ≡ true → b ≡ true → ⊥
not_true true e h = no_truth e
not_true false e h = no_truth h

pub not_of : (b : Bool) → (b ≡ true → ⊥) → not b ≡ true
not_of true none = absurd (none refl)
not_of false none = refl

-- a test that holds of some entry
any_in : (p : ℕ → Bool) (xs : List ℕ) → list_any p xs ≡ true → (x : ℕ) × Contains xs x × (p x ≡ true)
any_in p [] e = absurd (no_truth e)
any_in p (x ∷ xs) e = elim (or_cases (p x) (list_any p xs) e) [
  | inl here ↦ (x, here_in x xs, here)
  | inr there ↦ let y = any_in p xs there in (y.0, later_in x y.0 xs y.1, y.2)
]

any_has : (p : ℕ → Bool) (xs : List ℕ) (x : ℕ) → Contains xs x → p x ≡ true → list_any p xs ≡ true
any_has p [] x there e = absurd (nothing_in x there)
any_has p (y ∷ xs) x there e = elim (in_cases y x xs there) [
  | inl same ↦ or_left (p y) (list_any p xs) (subst (λ z. p z ≡ true) (sym same) e)
  | inr later ↦ or_right (p y) (list_any p xs) (any_has p xs x later e)
]

below_is : (n : ℕ) (p : ℕ → Bool) → any_below n p ≡ true → (k : ℕ) × (k < n) × (p k ≡ true)
below_is n p e =
    let x = any_in p (range_with_len 0 n) e in
    let within = (in_range_from 0 n x.0 x.1).1 in
    (x.0, omega (arith, within), x.2)

below_has : (n : ℕ) (p : ℕ → Bool) (k : ℕ) → k < n → p k ≡ true → any_below n p ≡ true
below_has n p k within e =
    any_has p (range_with_len 0 n) k (range_has 0 n k (omega arith) (omega (arith, within))) e

module _ (g : AttributeGrammar) where
  child_is : (class i : ℕ) → has_child g class i ≡ true → HasChildOf g class i
  child_is class i e =
      let c = below_is (g.child_count class) (λ c. g.child_interface class c == i) e in
      (c.0, c.1, eqb-true (g.child_interface class c.0) i c.2)

  child_has : (class i : ℕ) → HasChildOf g class i → has_child g class i ≡ true
  child_has class i h =
      below_has (g.child_count class) (λ c. g.child_interface class c == i) h.0 h.1
      (eq-eqb (g.child_interface class h.0) i h.2)

  -- ---- steps, and where they lead

  step_has : (class i : ℕ) → class < g.class_count → HasChildOf g class i → is_step g (g.interface class) i ≡ true
  step_has class i lies child =
      below_has g.class_count (λ k. (g.interface k == g.interface class) && has_child g k i) class lies
      (and_from (g.interface class == g.interface class) (has_child g class i)
      (eq-eqb (g.interface class) (g.interface class) refl) (child_has class i child))

  step_in : (host i j : ℕ) → InRegion g host i → is_step g i j ≡ true → InRegion g host j
  step_in host i j inside e =
      let k = below_is g.class_count (λ k. (g.interface k == i) && has_child g k j) e in
      let both = and_parts (g.interface k.0 == i) (has_child g k.0 j) k.2 in
      let same = eqb-true (g.interface k.0) i both.0 in
      (k.0 ∷ inside.0, (k.1, child_is k.0 j both.1, subst (λ x. Leads g host inside.0 x) (sym same) inside.1))

  led : (host n i j : ℕ) → InRegion g host i → leads g n i j ≡ true → InRegion g host j
  led host zero i j inside e = step_in host i j inside e
  led host (suc n) i j inside e = elim (or_cases (leads g n i j) (leads g n i n && leads g n n j) e) [
    | inl h ↦ led host n i j inside h
    | inr h ↦
        let both = and_parts (leads g n i n) (leads g n n j) h in
        led host n n j (led host n i n inside both.0) both.1
  ]

  one_step : (n i j : ℕ) → is_step g i j ≡ true → leads g n i j ≡ true
  one_step zero i j e = e
  one_step (suc n) i j e = or_left (leads g n i j) (leads g n i n && leads g n n j) (one_step n i j e)

  to_last : (n i : ℕ) → leads g (suc n) i n ≡ true → leads g n i n ≡ true
  to_last n i e = elim (or_cases (leads g n i n) (leads g n i n && leads g n n n) e) [
    | inl h ↦ h
    | inr h ↦ (and_parts (leads g n i n) (leads g n n n) h).0
  ]

  from_last : (n j : ℕ) → leads g (suc n) n j ≡ true → leads g n n j ≡ true
  from_last n j e = elim (or_cases (leads g n n j) (leads g n n n && leads g n n j) e) [
    | inl h ↦ h
    | inr h ↦ (and_parts (leads g n n n) (leads g n n j) h).1
  ]

  by_last : (n i j : ℕ) → leads g n i n ≡ true → leads g n n j ≡ true → leads g (suc n) i j ≡ true
  by_last n i j a b =
      or_right (leads g n i j) (leads g n i n && leads g n n j) (and_from (leads g n i n) (leads g n n j) a b)

  -- over one of the interfaces between
  joined : (n i k j : ℕ) → k < n → leads g n i k ≡ true → leads g n k j ≡ true → leads g n i j ≡ true
  joined zero i k j below a b = absurd (let z : ⊥ = omega (arith, below) in z)
  joined (suc n) i k j below a b = elim (cases_lt k n) [
    | inr past ↦
        let same : k ≡ n = omega (arith, below, past) in
        by_last n i j (to_last n i (subst (λ x. leads g (suc n) i x ≡ true) same a))
        (from_last n j (subst (λ x. leads g (suc n) x j ≡ true) same b))
    | inl less ↦
        elim (or_cases (leads g n i k) (leads g n i n && leads g n n k) a) [
          | inl x ↦ elim (or_cases (leads g n k j) (leads g n k n && leads g n n j) b) [
            | inl y ↦ or_left (leads g n i j) (leads g n i n && leads g n n j) (joined n i k j less x y)
            | inr y ↦
                let later = and_parts (leads g n k n) (leads g n n j) y in
                by_last n i j (joined n i k n less x later.0) later.1
          ]
          | inr x ↦
              let before = and_parts (leads g n i n) (leads g n n k) x in
              elim (or_cases (leads g n k j) (leads g n k n && leads g n n j) b) [
                | inl y ↦ by_last n i j before.0 (joined n n k j less before.1 y)
                | inr y ↦ by_last n i j before.0 (and_parts (leads g n k n) (leads g n n j) y).1
              ]
        ]
  ]

  -- ---- regions

  abbrev by_child : ℕ → ℕ → ℕ → Bool
  by_child host i first = has_child g host first && leads g g.interface_count first i

  region_is : (host i : ℕ) → is_in_region g host i ≡ true → InRegion g host i
  region_is host i e =
      elim (or_cases (has_child g host i) (any_below g.interface_count (by_child host i)) e) [
        | inl h ↦ ([], child_is host i h)
        | inr h ↦
            let first = below_is g.interface_count (by_child host i) h in
            let both = and_parts (has_child g host first.0) (leads g g.interface_count first.0 i) first.2 in
            led host g.interface_count first.0 i ([], child_is host first.0 both.0) both.1
      ]

  module _ (law : IsLawful g) where
    by_first : (host i first : ℕ) → first < g.interface_count → has_child g host first ≡ true
        → leads g g.interface_count first i ≡ true → is_in_region g host i ≡ true
    by_first host i first known child leading =
        or_right (has_child g host i) (any_below g.interface_count (by_child host i))
        (below_has g.interface_count (by_child host i) first known
        (and_from (has_child g host first) (leads g g.interface_count first i) child leading))

    way_has : (host : ℕ) (way : List ℕ) (i : ℕ) → Leads g host way i → is_in_region g host i ≡ true
    way_has host [] i h =
        or_left (has_child g host i) (any_below g.interface_count (by_child host i)) (child_has host i h)
    way_has host (class ∷ way) i h =
        let above = g.interface class in
        let known = law.interfaces_known class h.0 in
        let step = one_step g.interface_count above i (step_has class i h.0 h.1) in
        elim (or_cases (has_child g host above) (any_below g.interface_count (by_child host above))
        (way_has host way above h.2)) [
          | inl child ↦ by_first host i above known child step
          | inr there ↦
              let first = below_is g.interface_count (by_child host above) there in
              let both = and_parts (has_child g host first.0) (leads g g.interface_count first.0 above) first.2 in
              by_first host i first.0 first.1 both.0
              (joined g.interface_count first.0 above i known both.1 step)
        ]

    region_has : (host i : ℕ) → InRegion g host i → is_in_region g host i ≡ true
    region_has host i inside = way_has host inside.0 i inside.1

    -- ---- closed nests

    abbrev child_in : ℕ → ℕ → ℕ → Bool
    child_in host class c = is_in_region g host (g.child_interface class c)

    abbrev is_other : ℕ → ℕ → Bool
    is_other host class = not (may_have g host class) && any_below (g.child_count class) (child_in host class)

    may_is : (host class : ℕ) → may_have g host class ≡ true → (class ≡ host) ⊎ InRegion g host (g.interface class)
    may_is host class e = elim (or_cases (class == host) (is_in_region g host (g.interface class)) e) [
      | inl same ↦ inl (eqb-true class host same)
      | inr inside ↦ inr (region_is host (g.interface class) inside)
    ]

    may_has : (host class : ℕ) → (class ≡ host) ⊎ InRegion g host (g.interface class) → may_have g host class ≡ true
    may_has host class (inl same) =
        or_left (class == host) (is_in_region g host (g.interface class)) (eq-eqb class host same)
    may_has host class (inr inside) =
        or_right (class == host) (is_in_region g host (g.interface class)) (region_has host (g.interface class) inside)

    other_parent : (host class i : ℕ) → class < g.class_count → HasChildOf g class i → InRegion g host i
        → may_have g host class ≡ false → has_other_parent g host ≡ true
    other_parent host class i lies child inside bad =
        below_has g.class_count (is_other host) class lies
        (and_from (not (may_have g host class)) (any_below (g.child_count class) (child_in host class)) (ap not bad)
        (below_has (g.child_count class) (child_in host class) child.0 child.1
        (region_has host (g.child_interface class child.0) (subst (InRegion g host) (sym child.2) inside))))

    closed_is : (host : ℕ) → host < g.class_count → is_closed_host g host ≡ true → IsClosed g host
    closed_is host known e =
        let first =
        and_parts (not (is_in_region g host (g.interface host)))
        (not (is_in_region g host g.root) && not (has_other_parent g host)) e in
        let rest = and_parts (not (is_in_region g host g.root)) (not (has_other_parent g host)) first.1 in
        record {
          known = known;
          host_outside = λ inside.
              not_true (is_in_region g host (g.interface host)) first.0 (region_has host (g.interface host) inside);
          root_outside = λ inside. not_true (is_in_region g host g.root) rest.0 (region_has host g.root inside);
          no_other_parent = λ class i lies child inside.
              by_may class i lies child inside rest.1 (may_have g host class) refl;
        }
      where
        by_may : (class i : ℕ) → class < g.class_count → HasChildOf g class i → InRegion g host i
            → not (has_other_parent g host) ≡ true → (b : Bool) → may_have g host class ≡ b
            → (class ≡ host) ⊎ InRegion g host (g.interface class)
        by_may class i lies child inside none true is = may_is host class is
        by_may class i lies child inside none false is =
            absurd (not_true (has_other_parent g host) none (other_parent host class i lies child inside is))

    closed_has : (host : ℕ) → IsClosed g host → is_closed_host g host ≡ true
    closed_has host closed =
        and_from (not (is_in_region g host (g.interface host)))
        (not (is_in_region g host g.root) && not (has_other_parent g host))
        (not_of (is_in_region g host (g.interface host))
        (λ e. closed.host_outside (region_is host (g.interface host) e)))
        (and_from (not (is_in_region g host g.root)) (not (has_other_parent g host))
        (not_of (is_in_region g host g.root) (λ e. closed.root_outside (region_is host g.root e)))
        (not_of (has_other_parent g host) no_other))
      where
        no_other : has_other_parent g host ≡ true → ⊥
        no_other e =
            let k = below_is g.class_count (is_other host) e in
            let both =
            and_parts (not (may_have g host k.0)) (any_below (g.child_count k.0) (child_in host k.0)) k.2 in
            let c = below_is (g.child_count k.0) (child_in host k.0) both.1 in
            not_true (may_have g host k.0) both.0
            (may_has host k.0
            (closed.no_other_parent k.0 (g.child_interface k.0 c.0) k.1 (c.0, c.1, refl)
            (region_is host (g.child_interface k.0 c.0) c.2)))

    -- ---- attributes

    abbrev shares : ℕ → ℕ → ℕ → Bool
    shares host a i = is_in_region g host i && is_listed (g.shared i) a

    abbrev adds : ℕ → ℕ → ℕ → Bool
    adds host a class = is_in_region g host (g.interface class) && is_listed (g.private class) a

    attribute_is : (host a : ℕ) → is_of_region g host a ≡ true → OfRegion g host a
    attribute_is host a e =
        elim (or_cases (any_below g.interface_count (shares host a)) (any_below g.class_count (adds host a)) e) [
          | inl h ↦
              let i = below_is g.interface_count (shares host a) h in
              let both = and_parts (is_in_region g host i.0) (is_listed (g.shared i.0) a) i.2 in
              (i.0, region_is host i.0 both.0, inl (i.1, is_there (g.shared i.0) a both.1))
          | inr h ↦
              let k = below_is g.class_count (adds host a) h in
              let both = and_parts (is_in_region g host (g.interface k.0)) (is_listed (g.private k.0) a) k.2 in (
                g.interface k.0,
                region_is host (g.interface k.0) both.0,
                inr (k.0, refl, (k.1, is_there (g.private k.0) a both.1)),
              )
        ]

    attribute_has : (host a : ℕ) → OfRegion g host a → is_of_region g host a ≡ true
    attribute_has host a of = elim of.2 [
      | inl shared ↦
          or_left (any_below g.interface_count (shares host a)) (any_below g.class_count (adds host a))
          (below_has g.interface_count (shares host a) of.0 shared.0
          (and_from (is_in_region g host of.0) (is_listed (g.shared of.0) a) (region_has host of.0 of.1)
          (listed (g.shared of.0) a shared.1)))
      | inr added ↦
          or_right (any_below g.interface_count (shares host a)) (any_below g.class_count (adds host a))
          (below_has g.class_count (adds host a) added.0 added.2.0
          (and_from (is_in_region g host (g.interface added.0)) (is_listed (g.private added.0) a)
          (region_has host (g.interface added.0) (subst (InRegion g host) (sym added.1) of.1))
          (listed (g.private added.0) a added.2.1)))
    ]

    pub tests_tell : Tell g (region_tests g)
    tests_tell = record {
      closed = λ host known. (closed_is host known, closed_has host);
      region = λ host a known within. (attribute_is host a, attribute_has host a);
    }
