-- The tree that is built for a pair shows it.
use Rattle.std.proofs.Common.{◌≡◌, ℕ, zero, suc, ◌+◌, ◌<◌, ◌≤◌, ◌==◌, ◌&&◌, Bool, true, false, if◌then◌else◌, refl, sym, ◌∙◌, ap, ap₂, subst, inl, inr, ⊎_elim, arith, List, [], ◌∷◌, length, map, Option, None, Some, eqb-true, eq-eqb}
use Rattle.std.specs.List.{AllByRecursion}
use Rattle.std.proofs.lemmas.Bool.{cases_lt}
use Rattle.ftl_model.specs.layout.AttributeGrammar.{AttributeGrammar}
use Rattle.ftl_model.specs.layout.Solves.{Instance}
use Rattle.ftl_model.specs.layout.Tree.{Forest, IsTree, below_of, class_of, from_kid, none, size, tree}
use Rattle.ftl_example.specs.sizes.Wants.{beside_of}
use Rattle.ftl_model.specs.layout.TreeOf.{IsTreeOf}
use Rattle.ftl_order.specs.orders.Lawful.{IsLawful, class_of_rule}
use Rattle.ftl_order.specs.orders.Pairs.{IsPair, Pair, Where, Writes, child_class, parent_class, same_class}
use Rattle.ftl_example.specs.shows.Bare.{IsBare, bare_inputs}
use Rattle.ftl_example.specs.sizes.Least.{HasInterfaces, least, lesser, plus, singles}
use Rattle.ftl_example.specs.sizes.Place.{IsJustPlaceAt, IsKid, IsPlaceAt, IsReaderJust, IsReaderOr, IsReaderPlace, Kid, any, example_size, kid_sizes, of_class, place_size_at, reader_kids, reader_or_size, reader_size, singles_alone, writer_kids}
use Rattle.ftl_example.specs.sizes.Reach.{AreFewest, HasOrHolds, HoldsPlace, IsNode, best_way, others, reach, way_size, ways}
use Rattle.ftl_example.specs.shows.Shows.{Shows}
use Rattle.ftl_example.specs.sizes.Wants.{AreKids, Meets, below_size, kids_size}
use Rattle.ftl_example.proofs.sizes.Built.{lesser_is, some_same}
use Rattle.ftl_example.proofs.sizes.ExampleSize.{Known, all_few, all_so, each_known, interfaces, one_alone, place_few, place_shows, place_so, rule_known, writer_alone}
use Rattle.ftl_example.proofs.sizes.Places.{FirstHolds, holds_place, kid_holds}
use Rattle.ftl_example.proofs.shows.ReadFacts.{parent_writes}
use Rattle.ftl_example.proofs.sizes.WayBuilt.{ways_built}
use Rattle.ftl_example.proofs.sizes.Ways.{ways_fewest}
use Rattle.ftl_example.specs.trees.ExampleTree.{GrowsExamples, Want, any_tree, choices_by, class_tree, example_choices, on_way, place_class, place_kids, place_tree, reader_tree, want_of, want_or, way_child, way_class, way_tree}
use Rattle.ftl_example.specs.trees.Grown.{grown, is_size, least_class}
use Rattle.ftl_example.proofs.trees.Grown.{Good, Unfolds, grown_good}
use Rattle.ftl_example.proofs.trees.Least.{chosen, same_size, size_same, stable}

-- ---- kinds of kids under a map

module _ (g : AttributeGrammar) {V W : Type 0} (h : V → W) where
  length-map : (xs : List V) → length (map h xs) ≡ length xs
  length-map [] = refl
  length-map (x ∷ xs) = ap suc (length-map xs)

  module _ (size : W → ℕ → Option ℕ) (size' : V → ℕ → Option ℕ) (same : (x : V) (i : ℕ) → size (h x) i ≡ size' x i) where
    kids_map : (i : ℕ) (xs : List V) → kids_size size i (map h xs) ≡ kids_size size' i xs
    kids_map i [] = refl
    kids_map i (x ∷ xs) = ap₂ plus (same x i) (kids_map i xs)

    below_map : (wants : ℕ → List V) (k n : ℕ)
        → below_size g size (λ c. map h (wants c)) k n ≡ below_size g size' wants k n
    below_map wants k zero = refl
    below_map wants k (suc n) = ap₂ plus (kids_map (g.child_interface k n) (wants n)) (below_map wants k n)

  module _ (Is : W → ℕ → Forest → Type 0) (Is' : V → ℕ → Forest → Type 0)
      (to : (x : V) (class : ℕ) (below : Forest) → Is (h x) class below → Is' x class below) where
    are_map : (c : ℕ) (xs : List V) (f : Forest) → AreKids Is c (map h xs) f → AreKids Is' c xs f
    are_map c [] f k = k
    are_map c (x ∷ xs) f k =
        (k.0, to x (class_of (from_kid c 0 f)) (below_of (from_kid c 0 f)) k.1, are_map c xs (beside_of (from_kid c 0 f)) k.2)

-- ---- sums

pub plus_swap : (x y z : Option ℕ) → plus x (plus y z) ≡ plus y (plus x z)
plus_swap None None z = refl
plus_swap None (Some b) None = refl
plus_swap None (Some b) (Some c) = refl
plus_swap (Some a) None z = refl
plus_swap (Some a) (Some b) None = refl
plus_swap (Some a) (Some b) (Some c) = ap Some (let z : a + (b + c) ≡ b + (a + c) = omega arith in z)

nothing_more : (x : Option ℕ) → plus (Some 0) x ≡ x
nothing_more None = refl
nothing_more (Some b) = ap Some (let z : 0 + b ≡ b = omega arith in z)

one_alone_is : (x : Option ℕ) → plus x (Some 0) ≡ x
one_alone_is None = refl
one_alone_is (Some a) = ap Some (let z : a + 0 ≡ a = omega arith in z)

module _ (g : AttributeGrammar) (law : IsLawful g) (pair : Pair) (is : IsPair g pair) where
  abbrev pub all : ℕ → Option ℕ
  all = least g g.interface_count

  abbrev pub start : ℕ → Option ℕ
  start = place_size_at g (least g g.interface_count) pair.runs_at pair

  abbrev pub way : ℕ → Option ℕ
  way = reach g (least g g.interface_count) (place_size_at g (least g g.interface_count) pair.runs_at pair) g.interface_count

  abbrev pub size_by : Want → ℕ → Option ℕ
  size_by any_tree i = all i
  size_by (class_tree k) i = kid_sizes g all (of_class k) i
  size_by reader_tree i = reader_size g all pair i
  size_by place_tree i = start i
  size_by way_tree i = way i

  abbrev Place : ℕ → Forest → Type 0
  Place = IsJustPlaceAt g pair.runs_at pair

  abbrev pub Is : Want → ℕ → Forest → Type 0
  Is any_tree class below = Unit {0}
  Is (class_tree k) class below = class ≡ k
  Is reader_tree class below = IsReaderJust g pair class below
  Is place_tree class below = IsJustPlaceAt g pair.runs_at pair class below
  Is way_tree class below = HasOrHolds (IsJustPlaceAt g pair.runs_at pair) class below

  -- ---- what has just the place has it

  are_meets : {W : Type 0} (A B : W → ℕ → Forest → Type 0)
      → ((x : W) (class : ℕ) (below : Forest) → A x class below → B x class below)
      → (c : ℕ) (xs : List W) (f : Forest) → AreKids A c xs f → Meets B c xs f
  are_meets A B to c [] f k = tt
  are_meets A B to c (x ∷ xs) f k = (
    0,
    k.0,
    to x (class_of (from_kid c 0 f)) (below_of (from_kid c 0 f)) k.1,
    are_meets A B to c xs (beside_of (from_kid c 0 f)) k.2,
  )

  reader_meets : (class : ℕ) (below : Forest) → IsReaderJust g pair class below → IsReaderPlace g pair class below
  reader_meets class below h =
      (h.0, (λ c low. are_meets IsKid IsKid (λ x k b i. i) c (reader_kids g pair c) below (h.1 c low)))

  or_meets : (x : Bool) (class : ℕ) (below : Forest) → IsReaderOr (IsReaderJust g pair) x class below
      → IsReaderOr (IsReaderPlace g pair) x class below
  or_meets true class below h = reader_meets class below h
  or_meets false class below h = tt

  place_meets : (at_it : Where) (class : ℕ) (below : Forest) → IsJustPlaceAt g at_it pair class below
      → IsPlaceAt g at_it pair class below
  place_meets same_class class below h = reader_meets class below h
  place_meets child_class class below h = reader_meets class below h
  place_meets parent_class class below h = (
    h.0,
    (λ c low. are_meets (IsReaderOr (IsReaderJust g pair)) (IsReaderOr (IsReaderPlace g pair)) or_meets c
        (writer_kids g pair.writer c) below (h.1 c low)),
  )

  abbrev Met : ℕ → Forest → Type 0
  Met = IsPlaceAt g pair.runs_at pair

  holds_met : (f : Forest) → HoldsPlace (IsJustPlaceAt g pair.runs_at pair) f → HoldsPlace (IsPlaceAt g pair.runs_at pair) f
  holds_met none h = absurd h
  holds_met (tree k d i b s) h =
      ⊎_elim (λ p. inl (place_meets pair.runs_at k b p))
      (λ h. ⊎_elim (λ deeper. inr (inl (holds_met b deeper))) (λ later. inr (inr (holds_met s later))) h) h

  way_node : (k i n : ℕ) → reach g all start k i ≡ Some n → IsNode g (HasOrHolds (IsPlaceAt g pair.runs_at pair)) i n
  way_node k i n e =
      let w = ways_built g (IsJustPlaceAt g pair.runs_at pair) all start (all_so g law) (place_so g law pair is pair.runs_at is.1) k i n e in (
        w.0,
        bare_inputs g w.0,
        w.1,
        w.2,
        w.3,
        w.4,
        ⊎_elim (λ p. inl (place_meets pair.runs_at w.0 w.1 p)) (λ deeper. inr (holds_met w.1 deeper)) w.6,
        w.7,
      )

  fewest_at : (count : ℕ) → HasInterfaces g count
      → AreFewest g (HasOrHolds (IsPlaceAt g pair.runs_at pair)) (reach g all start count)
  fewest_at count known =
      ways_fewest g (IsPlaceAt g pair.runs_at pair) all start (all_few g law) (place_few g law pair is pair.runs_at) count known

  more : HasInterfaces g (suc g.interface_count)
  more k low = let l = law.interfaces_known k low in omega (arith, l)

  -- one round more changes no way
  way_stable : (i n : ℕ) → way i ≡ Some n → reach g all start (suc g.interface_count) i ≡ Some n
  way_stable i n e =
      let next = fewest_at (suc g.interface_count) more i n (way_node g.interface_count i n e) in
      let back = fewest_at g.interface_count (interfaces g law) i next.0 (way_node (suc g.interface_count) i next.0 next.1) in
      let same = some_same n back.0 (sym e ∙ back.1) in
      let a = next.2 in
      let b = back.2 in
      next.1 ∙ ap Some (let z : next.0 ≡ n = omega (arith, a, b, same) in z)

  -- ---- sums over the kids of a way

  singles_are : (k n : ℕ) → below_size g size_by (singles_alone g any_tree k) k n ≡ singles g all k n
  singles_are k zero = refl
  singles_are k (suc n) =
      elim (g.is_list k n) as
      (λ t. plus (kids_size size_by (g.child_interface k n) (if t then [] else any_tree ∷ []))
      (below_size g size_by (singles_alone g any_tree k) k n)
      ≡ (if t then singles g all k n else plus (all (g.child_interface k n)) (singles g all k n))) [
        | true ↦ nothing_more (below_size g size_by (singles_alone g any_tree k) k n) ∙ singles_are k n
        | false ↦ ap₂ plus (one_alone_is (all (g.child_interface k n))) (singles_are k n)
      ]

  -- the children before the way's
  before_way : (k d n : ℕ) → n ≤ d → below_size g size_by (on_way g k d) k n ≡ others g all k d n
  before_way k d zero le = refl
  before_way k d (suc n) le =
      let rest = before_way k d n (omega (arith, le)) in
      elim (n == d) as (λ t. (n == d ≡ t)
      → plus (kids_size size_by (g.child_interface k n) (if t then way_tree ∷ [] else singles_alone g any_tree k n))
      (below_size g size_by (on_way g k d) k n)
      ≡ (if t then others g all k d n else (if g.is_list k n then others g all k d n
      else plus (all (g.child_interface k n)) (others g all k d n)))) [
        | true ↦ λ e. absurd (let same = eqb-true n d e in omega (arith, le, same))
        | false ↦ λ e. other n rest
      ] refl
    where
      other : (n : ℕ) → below_size g size_by (on_way g k d) k n ≡ others g all k d n
          → plus (kids_size size_by (g.child_interface k n) (singles_alone g any_tree k n))
          (below_size g size_by (on_way g k d) k n)
          ≡ (if g.is_list k n then others g all k d n else plus (all (g.child_interface k n)) (others g all k d n))
      other n rest =
          elim (g.is_list k n) as
          (λ t. plus (kids_size size_by (g.child_interface k n) (if t then [] else any_tree ∷ []))
          (below_size g size_by (on_way g k d) k n)
          ≡ (if t then others g all k d n else plus (all (g.child_interface k n)) (others g all k d n))) [
            | true ↦ nothing_more (below_size g size_by (on_way g k d) k n) ∙ rest
            | false ↦ ap₂ plus (one_alone_is (all (g.child_interface k n))) rest
          ]

  -- and after it
  past_way : (k d n : ℕ) → d < n
      → below_size g size_by (on_way g k d) k n ≡ plus (way (g.child_interface k d)) (others g all k d n)
  past_way k d zero less = absurd (omega (arith, less))
  past_way k d (suc n) less =
      elim (n == d) as (λ t. (n == d ≡ t)
      → plus (kids_size size_by (g.child_interface k n) (if t then way_tree ∷ [] else singles_alone g any_tree k n))
      (below_size g size_by (on_way g k d) k n)
      ≡ plus (way (g.child_interface k d)) (if t then others g all k d n else (if g.is_list k n then others g all k d n
      else plus (all (g.child_interface k n)) (others g all k d n)))) [
        | true ↦ λ e.
            let same = eqb-true n d e in
            ap₂ plus (one_alone_is (way (g.child_interface k n))) (before_way k d n (omega (arith, same)))
            ∙ ap (λ m. plus (way (g.child_interface k m)) (others g all k d n)) same
        | false ↦ λ e.
            other n
            (past_way k d n (⊎_elim (λ l. l)
            (λ le. absurd (let z : n ≡ d = omega (arith, less, le) in let q = eq-eqb n d z in let z : ⊥ = grind (arith, e, q) in z))
            (cases_lt d n)))
      ] refl
    where
      other : (n : ℕ) → below_size g size_by (on_way g k d) k n ≡ plus (way (g.child_interface k d)) (others g all k d n)
          → plus (kids_size size_by (g.child_interface k n) (singles_alone g any_tree k n))
          (below_size g size_by (on_way g k d) k n)
          ≡ plus (way (g.child_interface k d)) (if g.is_list k n then others g all k d n
          else plus (all (g.child_interface k n)) (others g all k d n))
      other n rest =
          elim (g.is_list k n) as
          (λ t. plus (kids_size size_by (g.child_interface k n) (if t then [] else any_tree ∷ []))
          (below_size g size_by (on_way g k d) k n)
          ≡ plus (way (g.child_interface k d)) (if t then others g all k d n
          else plus (all (g.child_interface k n)) (others g all k d n))) [
            | true ↦ nothing_more (below_size g size_by (on_way g k d) k n) ∙ rest
            | false ↦
                ap₂ plus (one_alone_is (all (g.child_interface k n))) rest
                ∙ plus_swap (all (g.child_interface k n)) (way (g.child_interface k d)) (others g all k d n)
          ]

  -- ---- choices

  abbrev IsWayClass : ℕ → ℕ → ℕ → ℕ → Type 0
  IsWayClass i n most k = (k < most) × (g.interface k ≡ i) × (ways g all way k (g.child_count k) ≡ Some n)

  class_found : (i n : ℕ) → way i ≡ Some n → (most : ℕ) → best_way g all way i most ≡ Some n
      → IsWayClass i n most (way_class g all way i most)
  class_found i n size_is zero e = absurd (let z : ⊥ = grind arith in z)
  class_found i n size_is (suc m) e =
      (elim (g.interface m == i) as
      (λ t. (g.interface m == i ≡ t)
      → (if t then lesser (best_way g all way i m) (ways g all way m (g.child_count m)) else best_way g all way i m) ≡ Some n
      → IsWayClass i n (suc m)
      (if t && is_size (ways g all way m (g.child_count m)) (way i) then m else way_class g all way i m)) [
        | true ↦ λ same e.
            elim (is_size (ways g all way m (g.child_count m)) (way i)) as
            (λ t. (is_size (ways g all way m (g.child_count m)) (way i) ≡ t)
            → IsWayClass i n (suc m) (if t then m else way_class g all way i m)) [
              | true ↦ λ f. (
                omega arith,
                eqb-true (g.interface m) i same,
                size_same g law (ways g all way m (g.child_count m)) (way i) f ∙ size_is,
              )
              | false ↦ λ f.
                  wider (class_found i n size_is m
                  (⊎_elim (λ old. old)
                  (λ new. absurd
                  (let h = same_size g law (ways g all way m (g.child_count m)) (way i) (new ∙ sym size_is) in
                  let z : ⊥ = grind (arith, f, h) in z))
                  (lesser_is (best_way g all way i m) (ways g all way m (g.child_count m)) n e)))
            ] refl
        | false ↦ λ differ e. wider (class_found i n size_is m e)
      ]) refl e
    where
      wider : {k : ℕ} → IsWayClass i n m k → IsWayClass i n (suc m) k
      wider {k} h = (let l = h.0 in let z : k < suc m = omega (arith, l) in z, h.1, h.2)

  abbrev IsWayChild : ℕ → ℕ → ℕ → ℕ → Type 0
  IsWayChild k n most d = (d < most) × (way_size g all way k d ≡ Some n)

  child_found : (k i n : ℕ) → way i ≡ Some n → (most : ℕ) → ways g all way k most ≡ Some n
      → IsWayChild k n most (way_child g all way k i most)
  child_found k i n size_is zero e = absurd (let z : ⊥ = grind arith in z)
  child_found k i n size_is (suc m) e =
      elim (is_size (way_size g all way k m) (way i)) as
      (λ t. (is_size (way_size g all way k m) (way i) ≡ t)
      → IsWayChild k n (suc m) (if t then m else way_child g all way k i m)) [
        | true ↦ λ f. (omega arith, size_same g law (way_size g all way k m) (way i) f ∙ size_is)
        | false ↦ λ f.
            wider (child_found k i n size_is m
            (⊎_elim (λ old. old)
            (λ new. absurd
            (let h = same_size g law (way_size g all way k m) (way i) (new ∙ sym size_is) in let z : ⊥ = grind (arith, f, h) in z))
            (lesser_is (ways g all way k m) (way_size g all way k m) n e)))
      ] refl
    where
      wider : {d : ℕ} → IsWayChild k n m d → IsWayChild k n (suc m) d
      wider {d} h = (let l = h.0 in let z : d < suc m = omega (arith, l) in z, h.1)

  -- ---- what each want comes to

  -- a class of the grammar
  abbrev pub IsKnown : Want → Type 0
  IsKnown any_tree = Unit {0}
  IsKnown (class_tree k) = k < g.class_count
  IsKnown reader_tree = Unit {0}
  IsKnown place_tree = Unit {0}
  IsKnown way_tree = Unit {0}

  abbrev AllKnown : List Want → Type 0
  AllKnown xs = AllByRecursion IsKnown xs

  singles_known : (k c : ℕ) → AllByRecursion IsKnown (singles_alone g any_tree k c)
  singles_known k c =
      elim (g.is_list k c) as (λ t. AllByRecursion IsKnown (if t then [] else any_tree ∷ [])) [ true ↦ tt | false ↦ (tt, tt) ]

  kids_known : (xs : List Kid) → AllByRecursion (Known g law) xs → AllByRecursion IsKnown (map want_of xs)
  kids_known [] h = tt
  kids_known (any ∷ xs) h = (tt, kids_known xs h.1)
  kids_known (of_class k ∷ xs) h = (h.0, kids_known xs h.1)

  or_known : (xs : List Bool) → AllByRecursion IsKnown (map want_or xs)
  or_known [] = tt
  or_known (true ∷ xs) = (tt, or_known xs)
  or_known (false ∷ xs) = (tt, or_known xs)

  place_known : (at_it : Where) (c : ℕ) → AllByRecursion IsKnown (place_kids g at_it pair c)
  place_known same_class c = kids_known (reader_kids g pair c) (each_known g law pair is c)
  place_known child_class c = kids_known (reader_kids g pair c) (each_known g law pair is c)
  place_known parent_class c = or_known (writer_kids g pair.writer c)

  way_known : (k d c : ℕ) → AllByRecursion IsKnown (on_way g k d c)
  way_known k d c =
      elim (c == d) as (λ t. AllByRecursion IsKnown (if t then way_tree ∷ [] else singles_alone g any_tree k c))
      [ true ↦ (tt, tt) | false ↦ singles_known k c ]

  abbrev pub Unfold : Want → ℕ → ℕ → Type 0
  Unfold w i n = Unfolds g Want Is size_by IsKnown (choices_by g pair all start way) w i n

  record Class (k i n : ℕ) (x : Option ℕ) : Type 0 where
    pub interface : g.interface k ≡ i
    pub total : plus (Some 1) x ≡ Some n

  by_class : (k i n : ℕ) (x : Option ℕ) → (if g.interface k == i then plus (Some 1) x else None) ≡ Some n → Class k i n x
  by_class k i n x e =
      (elim (g.interface k == i) as (λ t. (g.interface k == i ≡ t) → (if t then plus (Some 1) x else None) ≡ Some n
      → Class k i n x) [
        | true ↦ λ same e. record { interface = eqb-true (g.interface k) i same; total = e }
        | false ↦ λ differ e. absurd (let z : ⊥ = grind arith in z)
      ]) refl e

  alone_by : (k c : ℕ) → g.is_list k c ≡ false → length (singles_alone g any_tree k c) ≡ 1
  alone_by k c e = ap (λ b. length (if b then [] else any_tree ∷ [])) e

  any_unfolds : (i n : ℕ) → size_by any_tree i ≡ Some n → Unfold any_tree i n
  any_unfolds i n e =
      let c = chosen g law i n e g.class_count (stable g law i n e) in
      let k = least_class g all i g.class_count in
      record {
        interface = c.1;
        known = c.0;
        sum = ap (plus (Some 1)) (singles_are k (g.child_count k)) ∙ c.2;
        alone = λ d low single. alone_by k d single;
        closes = λ f kids. tt;
        each = singles_known k;
      }

  kid_same : (x : Kid) (i : ℕ) → size_by (want_of x) i ≡ kid_sizes g all x i
  kid_same any i = refl
  kid_same (of_class k) i = refl

  kid_is : (x : Kid) (class : ℕ) (below : Forest) → Is (want_of x) class below → IsKid x class below
  kid_is any class below h = tt
  kid_is (of_class k) class below h = h

  or_same : (x : Bool) (i : ℕ) → size_by (want_or x) i ≡ reader_or_size (reader_size g all pair) all x i
  or_same true i = refl
  or_same false i = refl

  or_is : (x : Bool) (class : ℕ) (below : Forest) → Is (want_or x) class below → IsReaderOr (IsReaderJust g pair) x class below
  or_is true class below h = h
  or_is false class below h = tt

  -- a node that is chosen outright
  pub record Outright (k i n : ℕ) (wants : ℕ → List Want) (P : ℕ → Forest → Type 0) : Type 0 where
    pub interface : g.interface k ≡ i
    pub known : k < g.class_count
    pub sum : plus (Some 1) (below_size g size_by wants k (g.child_count k)) ≡ Some n
    pub alone : (c : ℕ) → c < g.child_count k → g.is_list k c ≡ false → length (wants c) ≡ 1
    pub closes : (f : Forest) → ((c : ℕ) → c < g.child_count k → AreKids Is c (wants c) f) → P k f

  reader_outright : (i n : ℕ) → reader_size g all pair i ≡ Some n
      → Outright (class_of_rule pair.reader) i n (λ c. map want_of (reader_kids g pair c)) (IsReaderJust g pair)
  reader_outright i n e =
      let k = class_of_rule pair.reader in
      let b = by_class k i n (below_size g (kid_sizes g all) (reader_kids g pair) k (g.child_count k)) e in
      record {
        interface = b.interface;
        known = rule_known g law pair is pair.reader is.0.0;
        sum = ap (plus (Some 1)) (below_map g want_of size_by (kid_sizes g all) kid_same (reader_kids g pair) k (g.child_count k)) ∙ b.total;
        alone = λ c low single. length-map g want_of (reader_kids g pair c) ∙ one_alone g law pair is c low single;
        closes = λ f kids. (refl, (λ c low. are_map g want_of Is IsKid kid_is c (reader_kids g pair c) f (kids c low)));
      }

  pub place_outright : (at_it : Where) → Writes g (class_of_rule pair.reader) pair.read at_it pair.writer → (i n : ℕ)
      → place_size_at g all at_it pair i ≡ Some n
      → Outright (place_class at_it pair) i n (place_kids g at_it pair) (IsJustPlaceAt g at_it pair)
  place_outright same_class h i n e = reader_outright i n e
  place_outright child_class h i n e = reader_outright i n e
  place_outright parent_class h i n e =
      let k = class_of_rule pair.writer in
      let p = parent_writes g (class_of_rule pair.reader) pair.read pair.writer h in
      let sizes = reader_or_size (reader_size g all pair) all in
      let b = by_class k i n (below_size g sizes (writer_kids g pair.writer) k (g.child_count k)) e in
      record {
        interface = b.interface;
        known = subst (λ w. class_of_rule w < g.class_count) (sym p.3) p.7;
        sum = ap (plus (Some 1)) (below_map g want_or size_by sizes or_same (writer_kids g pair.writer) k (g.child_count k)) ∙ b.total;
        alone = λ c low single. length-map g want_or (writer_kids g pair.writer c) ∙ writer_alone g law pair is c low single;
        closes = λ f kids.
            (refl, (λ c low. are_map g want_or Is (IsReaderOr (IsReaderJust g pair)) or_is c (writer_kids g pair.writer c) f (kids c low)));
      }

  class_unfolds : (k i n : ℕ) → k < g.class_count → size_by (class_tree k) i ≡ Some n → Unfold (class_tree k) i n
  class_unfolds k i n known e =
      let b = by_class k i n (below_size g (λ (x : Kid). all) (singles_alone g any k) k (g.child_count k)) e in
      record {
        interface = b.interface;
        known = known;
        sum = ap (plus (Some 1)) (same k (g.child_count k)) ∙ b.total;
        alone = λ d low single. alone_by k d single;
        closes = λ f kids. refl;
        each = singles_known k;
      }
    where
      same : (k n : ℕ) → below_size g size_by (singles_alone g any_tree k) k n
          ≡ below_size g (λ (x : Kid). all) (singles_alone g any k) k n
      same k zero = refl
      same k (suc n) =
          elim (g.is_list k n) as
          (λ t. plus (kids_size size_by (g.child_interface k n) (if t then [] else any_tree ∷ []))
          (below_size g size_by (singles_alone g any_tree k) k n)
          ≡ plus (kids_size (λ (x : Kid). all) (g.child_interface k n) (if t then [] else any ∷ []))
          (below_size g (λ (x : Kid). all) (singles_alone g any k) k n)) [
            | true ↦ ap (plus (Some 0)) (same k n)
            | false ↦ ap (plus (plus (all (g.child_interface k n)) (Some 0))) (same k n)
          ]

  -- a kid on the way is the place, or holds it
  way_closes : (k d : ℕ) (f : Forest) → d < g.child_count k
      → ((c : ℕ) → c < g.child_count k → AreKids Is c (on_way g k d c) f) → HasOrHolds Place k f
  way_closes k d f low kids =
      let here = subst (λ b. AreKids Is d (if b then way_tree ∷ [] else singles_alone g any_tree k d) f) (eq-eqb d d refl) (kids d low) in
      inr (kid_holds Place d 0 f (first (from_kid d 0 f) here.0 here.1))
    where
      first : (t : Forest) → IsTree t → HasOrHolds Place (class_of t) (below_of t) → FirstHolds Place t
      first none is h = absurd is
      first (tree k d i b s) is h = h

  -- past the place
  on_unfolds : (i n : ℕ) → way i ≡ Some n → best_way g all way i g.class_count ≡ Some n
      → let k = way_class g all way i g.class_count in
      let d = way_child g all way k i (g.child_count k) in
      Outright k i n (on_way g k d) (HasOrHolds Place)
  on_unfolds i n e best =
      let k = way_class g all way i g.class_count in
      let d = way_child g all way k i (g.child_count k) in
      let c = class_found i n e g.class_count best in
      let w = child_found k i n e (g.child_count k) c.2 in
      record {
        interface = c.1;
        known = c.0;
        sum = ap (plus (Some 1)) (past_way k d (g.child_count k) w.0) ∙ w.1;
        alone = λ x low single.
            elim (x == d) as (λ t. length (if t then way_tree ∷ [] else singles_alone g any_tree k x) ≡ 1)
            [ true ↦ refl | false ↦ alone_by k x single ];
        closes = λ f kids. way_closes k d f w.0 kids;
      }

  abbrev UnfoldBy : ℕ → ℕ → ℕ → (ℕ → List Want) → Type 0
  UnfoldBy i n k wants =
      (g.interface k ≡ i) × (k < g.class_count)
      × (plus (Some 1) (below_size g size_by wants k (g.child_count k)) ≡ Some n)
      × ((c : ℕ) → c < g.child_count k → g.is_list k c ≡ false → length (wants c) ≡ 1)
      × ((f : Forest) → ((c : ℕ) → c < g.child_count k → AreKids Is c (wants c) f) → HasOrHolds Place k f)

  way_by : (i n : ℕ) → way i ≡ Some n
      → UnfoldBy i n ((choices_by g pair all start way).class_for way_tree i) ((choices_by g pair all start way).kids_for way_tree i)
  way_by i n e =
      let next : lesser (start i) (best_way g all way i g.class_count) ≡ Some n = way_stable i n e in
      elim (is_size (start i) (way i)) as (λ t. (is_size (start i) (way i) ≡ t)
      → UnfoldBy i n (if t then place_class pair.runs_at pair else way_class g all way i g.class_count)
      (λ c. if t then place_kids g pair.runs_at pair c
      else on_way g (way_class g all way i g.class_count)
      (way_child g all way (way_class g all way i g.class_count) i (g.child_count (way_class g all way i g.class_count))) c)) [
        | true ↦ λ f.
            let o = place_outright pair.runs_at is.1 i n (size_same g law (start i) (way i) f ∙ e) in
            (o.interface, o.known, o.sum, o.alone, (λ t kids. inl (o.closes t kids)))
        | false ↦ λ f.
            let o = on_unfolds i n e
            (⊎_elim
            (λ here. absurd (let h = same_size g law (start i) (way i) (here ∙ sym e) in let z : ⊥ = grind (arith, f, h) in z))
            (λ later. later) (lesser_is (start i) (best_way g all way i g.class_count) n next)) in
            (o.interface, o.known, o.sum, o.alone, o.closes)
      ] refl

  way_each : (i c : ℕ) → AllByRecursion IsKnown ((choices_by g pair all start way).kids_for way_tree i c)
  way_each i c =
      elim (is_size (start i) (way i)) as
      (λ t. AllByRecursion IsKnown (if t then place_kids g pair.runs_at pair c
      else on_way g (way_class g all way i g.class_count)
      (way_child g all way (way_class g all way i g.class_count) i (g.child_count (way_class g all way i g.class_count))) c)) [
        | true ↦ place_known pair.runs_at c
        | false ↦
            way_known (way_class g all way i g.class_count)
            (way_child g all way (way_class g all way i g.class_count) i (g.child_count (way_class g all way i g.class_count))) c
      ]

  way_unfolds : (i n : ℕ) → way i ≡ Some n → Unfold way_tree i n
  way_unfolds i n e =
      let b = way_by i n e in
      record { interface = b.0; known = b.1; sum = b.2; alone = b.3; closes = b.4; each = way_each i }

  reader_unfolds : (i n : ℕ) → size_by reader_tree i ≡ Some n → Unfold reader_tree i n
  reader_unfolds i n e =
      let o = reader_outright i n e in
      record {
        interface = o.interface;
        known = o.known;
        sum = o.sum;
        alone = o.alone;
        closes = o.closes;
        each = λ c. kids_known (reader_kids g pair c) (each_known g law pair is c);
      }

  place_unfolds : (i n : ℕ) → size_by place_tree i ≡ Some n → Unfold place_tree i n
  place_unfolds i n e =
      let o = place_outright pair.runs_at is.1 i n e in
      record {
        interface = o.interface;
        known = o.known;
        sum = o.sum;
        alone = o.alone;
        closes = o.closes;
        each = place_known pair.runs_at;
      }

  pub unfolds : (w : Want) (i n : ℕ) → IsKnown w → size_by w i ≡ Some n → Unfold w i n
  unfolds any_tree i n known e = any_unfolds i n e
  unfolds (class_tree k) i n known e = class_unfolds k i n known e
  unfolds reader_tree i n known e = reader_unfolds i n e
  unfolds place_tree i n known e = place_unfolds i n e
  unfolds way_tree i n known e = way_unfolds i n e

  example_good : (n : ℕ) → example_size g pair ≡ Some n
      → Good g Want Is size_by IsKnown way_tree g.root n (grown g (choices_by g pair all start way) n way_tree g.root)
  example_good n e =
      grown_good g Want Is size_by IsKnown (choices_by g pair all start way) unfolds n way_tree g.root n tt e (omega arith)

  pub example_grown : (n : ℕ) → example_size g pair ≡ Some n
      → let node = grown g (example_choices g pair) n way_tree g.root in
      let t = tree node.0 0 (bare_inputs g node.0) node.1 none in
      IsTreeOf g t × IsBare g t × ((r w : Instance) × Shows g t pair r w) × (size t ≡ n)
  example_grown n e =
      let b = example_good n e in
      let node = grown g (choices_by g pair all start way) n way_tree g.root in
      let t : Forest = tree node.0 0 (bare_inputs g node.0) node.1 none in
      let fits : IsTreeOf g t = (b.interface, b.fits, b.fit_below, refl, refl) in
      let nodes = b.nodes in (
        fits,
        (refl, b.bare, tt),
        place_shows g law pair is t fits (holds_place Place t b.is),
        (let z : suc (size node.1 + 0) ≡ n = omega (arith, nodes) in z),
      )

pub grows_examples : GrowsExamples
grows_examples g pair n law is e = example_grown g law pair is n e
