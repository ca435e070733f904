-- A tree that shows a pair has its place.
use Rattle.std.proofs.Common.{◌≡◌, ◌⊎◌, ℕ, suc, ◌+◌, ◌-◌, ◌<◌, ◌&&◌, ◌||◌, Bool, true, false, if◌then◌else◌, refl, sym, ◌∙◌, ap, subst, inl, inr, ⊎_elim, arith, [], ◌∷◌, Contains, eqb-true}
use Rattle.ftl_model.proofs.lists.Elements.{in_range_from}
use Rattle.ftl_model.specs.layout.Tree.{Forest, IsTree, class_of, below_of, from_kid}
use Rattle.ftl_example.specs.sizes.Wants.{beside_of}
use Rattle.ftl_model.specs.layout.Path.{Has, Path, at, class_at, down, kids_at, top}
use Rattle.ftl_model.specs.layout.AttributeGrammar.{AttributeGrammar, Occurrence, Part, Parts, Read, Sort, each_read, first_part, first_then, fold_over, for_child, for_self, from_part, inherited, kid, last_read, occurrences, own, plain, plain_part, prev_read, self_read, single_read, then_part, this_read, with_part}
use Rattle.ftl_model.specs.layout.Solves.{Instance, instance_of, rule_kid, rule_name, rule_named, rule_node, seen_from}
use Rattle.ftl_model.specs.layout.TreeOf.{IsTreeOf}
use Rattle.ftl_model.proofs.layout.Standing.{has_parent}
use Rattle.ftl_order.specs.orders.Lawful.{IsLawful, MayReadLater, class_of_rule}
use Rattle.ftl_order.specs.orders.Pairs.{IsPair, Pair, Where, Writes, child_class, parent_class, same_class}
use Rattle.ftl_order.proofs.orders.Kids.{kid_counted, kid_exists}
use Rattle.ftl_order.proofs.orders.TreeEquations.{single_there}
use Rattle.ftl_example.specs.shows.Places.{HasPlace}
use Rattle.ftl_example.specs.sizes.Place.{IsKid, IsPlaceAt, IsReaderOr, IsReaderPlace, Kid, any, goes_over, is_for, is_then, read_kid, reader_kids, reads_child, singles_alone, two_kids, writer_kids}
use Rattle.ftl_example.specs.shows.Shows.{Shows, at_hand}
use Rattle.ftl_example.specs.sizes.Wants.{Meets}
use Rattle.ftl_example.proofs.sizes.KidSums.{from_later}
use Rattle.ftl_example.proofs.shows.ReadFacts.{before_seen, child_writes, later_may, no_true, one_in, own_class, parent_writes, runs_here, sees_kid, then_hand}

-- a part that goes over the kids of a child has one at hand
pub over_hand : (parts : Parts) (part : Part) (kids : ℕ → ℕ) (k n c : ℕ) → goes_over parts part c ≡ true
    → Contains (at_hand parts part kids k) n → n < kids c
over_hand (plain reads) part kids k n c e h = no_true e
over_hand (first_then first later) part kids k n c e h = no_true e
over_hand (fold_over d start step) plain_part kids k n c e h = no_true e
over_hand (fold_over d start step) first_part kids k n c e h = no_true e
over_hand (fold_over d start step) then_part kids k n c e h = no_true e
over_hand (fold_over d start step) from_part kids k n c e h = no_true e
over_hand (fold_over d start step) with_part kids k n c e h =
    subst (λ x. n < kids x) (eqb-true d c e) (let z = in_range_from 0 (kids d) n h in let l = z.1 in omega (arith, l))

pub both_true : (a b : Bool) → a && b ≡ true → (a ≡ true) × (b ≡ true)
both_true true b e = (refl, e)
both_true false b e = no_true e

either_true : (a b : Bool) → a || b ≡ true → (a ≡ true) ⊎ (b ≡ true)
either_true true b e = inl refl
either_true false b e = inr e

module _ (c : ℕ) (f : Forest) where
  abbrev Stands : Kid → ℕ → Type 0
  Stands x n = IsTree (from_kid c n f) × IsKid x (class_of (from_kid c n f)) (below_of (from_kid c n f))

  meets_one : (x : Kid) (n : ℕ) → Stands x n → Meets IsKid c (x ∷ []) f
  meets_one x n h = (n, h.0, h.1, tt)

  meets_two : (x y : Kid) (m : ℕ) → Stands x m → Stands y (suc m) → Meets IsKid c (x ∷ y ∷ []) f
  meets_two x y m h i =
      let e : from_kid c 0 (beside_of (from_kid c m f)) ≡ from_kid c (suc m) f =
      from_later c m 0 f h.0 ∙ ap (λ n. from_kid c n f) (let z : suc (m + 0) ≡ suc m = omega arith in z) in
      let j = subst (λ t. IsTree t × IsKid y (class_of t) (below_of t)) (sym e) i in
      (m, h.0, h.1, (0, j.0, j.1, tt))

module _ (g : AttributeGrammar) (law : IsLawful g) (t : Forest) (fits : IsTreeOf g t) where
  -- a node has a tree in each single child
  alone_met : {W : Type 0} (Is : W → ℕ → Forest → Type 0) (x : W) (p : Path) → Has t p → (class c : ℕ)
      → class_at t p ≡ class → c < g.child_count class
      → ((n : ℕ) → Is x (class_at t (down c n p)) (below_of (at t (down c n p))))
      → Meets Is c (singles_alone g x class c) (below_of (at t p))
  alone_met {W} Is x p h class c same known is =
      elim (g.is_list class c) as (λ b. (g.is_list class c ≡ b)
      → Meets Is c (if b then [] else x ∷ []) (below_of (at t p))) [
        | true ↦ λ e. tt
        | false ↦ λ e. (
          0,
          kid_exists c 0 (below_of (at t p))
              (single_there g law t fits c p h
              (subst (λ k. (c < g.child_count k) × (g.is_list k c ≡ false)) (sym same) (known, e))),
          is 0,
          tt,
        )
      ] refl

  module _ (pair : Pair) (is : IsPair g pair) (r w : Instance) (shows : Shows g t pair r w) where
    sort : Sort
    sort = g.sort r.attribute

    abbrev p : Path
    p = rule_node (g.sort r.attribute) r.node

    abbrev k : ℕ
    k = rule_kid (g.sort r.attribute) r.node

    runs : Has t p × (class_at t p ≡ class_of_rule (rule_name t (g.sort r.attribute) r.node r.attribute))
        × ((c : ℕ) → is_for (rule_name t (g.sort r.attribute) r.node r.attribute) c ≡ true → Has t (down c k p))
    runs = runs_here t (g.sort r.attribute) r.node r.attribute shows.reader_there.0.0

    there : Has t p
    there = runs.0

    class : class_at t p ≡ class_of_rule pair.reader
    class = runs.1 ∙ ap class_of_rule shows.reader

    own_kid : (c : ℕ) → is_for pair.reader c ≡ true → Has t (down c k p)
    own_kid c e = runs.2 c (subst (λ x. is_for x c ≡ true) (sym shows.reader) e)

    n : ℕ
    n = shows.read.0

    hand : Contains (at_hand (rule_named g pair.reader).parts pair.part (kids_at t p) k) shows.read.0
    hand = shows.read.1

    o : Occurrence
    o = shows.read.2.0

    -- what is read of a kid is there, of the writer's class
    kid_read : (c m : ℕ) → w.node ≡ down c m p → Stands c (below_of (at t p)) (read_kid pair.runs_at pair.writer) m
    kid_read c m e = (
      subst (Has t) e shows.writer_there.0.0,
      subst (λ q. IsKid (read_kid pair.runs_at pair.writer) (class_at t q) (below_of (at t q))) e
          (by_place pair.runs_at is.1),
    )
      where
        by_place : (at_it : Where) → Writes g (class_of_rule pair.reader) pair.read at_it pair.writer
            → IsKid (read_kid at_it pair.writer) (class_at t w.node) (below_of (at t w.node))
        by_place same_class h = tt
        by_place parent_class h = tt
        by_place child_class h =
            let named = child_writes g (class_of_rule pair.reader) pair.read pair.writer h in
            own_class t (g.sort w.attribute) w.node w.attribute named.0 named.1 (shows.writer ∙ named.2)
            ∙ sym (ap class_of_rule named.2)

    -- the kids of a later kid and the one before it
    two_met : (c : ℕ) → is_for pair.reader c ≡ true → is_then pair.part ≡ true
        → Meets IsKid c (two_kids pair.read (read_kid pair.runs_at pair.writer)) (below_of (at t p))
    two_met c for_it later =
        go pair.read (later_may g law pair.reader pair.part pair.read is.0.0 is.0.1 c for_it later) refl
      where
        f : Forest
        f = below_of (at t p)

        later_kid : (0 < k) × (shows.read.0 ≡ k)
        later_kid = then_hand (rule_named g pair.reader).parts pair.part (kids_at t p) k shows.read.0 later shows.read.1

        here : IsTree (from_kid c (suc (k - 1)) (below_of (at t p)))
        here =
            let l = later_kid.0 in
            subst (λ x. IsTree (from_kid c x (below_of (at t p)))) (let z : k ≡ suc (k - 1) = omega (arith, l) in z)
            (own_kid c for_it)

        before : IsTree (from_kid c (k - 1) (below_of (at t p)))
        before =
            let b = kid_counted c (suc (k - 1)) (below_of (at t p)) here in
            kid_exists c (k - 1) (below_of (at t p)) (omega (arith, b))

        go : (read : Read) → MayReadLater g (class_of_rule pair.reader) c read → pair.read ≡ read
            → Meets IsKid c (two_kids read (read_kid pair.runs_at pair.writer)) (below_of (at t p))
        go (self_read a) may e = meets_two c (below_of (at t p)) any any (k - 1) (before, tt) (here, tt)
        go (single_read d a) may e = meets_two c (below_of (at t p)) any any (k - 1) (before, tt) (here, tt)
        go (each_read d a) may e = meets_two c (below_of (at t p)) any any (k - 1) (before, tt) (here, tt)
        go (last_read d a) may e = meets_two c (below_of (at t p)) any any (k - 1) (before, tt) (here, tt)
        go (this_read d a) may e =
            let l = later_kid.0 in
            let seen : shows.read.2.0 ≡ kid d shows.read.0 a =
            one_in (kid d shows.read.0 a) shows.read.2.0
            (subst (λ y. Contains (occurrences (kids_at t p) shows.read.0 y) shows.read.2.0) e shows.read.2.1) in
            let q : w.node ≡ down c (suc (k - 1)) p =
            ap (λ (i : Instance). i.node) (shows.read.2.2 ∙ ap (seen_from p) seen)
            ∙ ap (λ y. down y shows.read.0 p) may.0
            ∙ ap (λ y. down c y p) (later_kid.1 ∙ (let z : k ≡ suc (k - 1) = omega (arith, l) in z)) in
            meets_two c (below_of (at t p)) any (read_kid pair.runs_at pair.writer) (k - 1) (before, tt)
            (kid_read c (suc (k - 1)) q)
        go (prev_read d a) may e =
            let seen : shows.read.2.0 ≡ kid d (shows.read.0 - 1) a =
            (before_seen d a shows.read.0 shows.read.2.0
            (subst (λ y. Contains (occurrences (kids_at t p) shows.read.0 y) shows.read.2.0) e shows.read.2.1)).1 in
            let q : w.node ≡ down c (k - 1) p =
            ap (λ (i : Instance). i.node) (shows.read.2.2 ∙ ap (seen_from p) seen)
            ∙ ap (λ y. down y (shows.read.0 - 1) p) may.0
            ∙ ap (λ y. down c (y - 1) p) later_kid.1 in
            meets_two c (below_of (at t p)) (read_kid pair.runs_at pair.writer) any (k - 1)
            (kid_read c (k - 1) q) (here, tt)

    one_read : (c : ℕ) → reads_child pair.read c ≡ true
        → Meets IsKid c (read_kid pair.runs_at pair.writer ∷ []) (below_of (at t p))
    one_read c e =
        let s = sees_kid (kids_at t p) shows.read.0 pair.read c e shows.read.2.0 shows.read.2.1 in
        meets_one c (below_of (at t p)) (read_kid pair.runs_at pair.writer) s.0
        (kid_read c s.0 (ap (λ (i : Instance). i.node) (shows.read.2.2 ∙ ap (seen_from p) s.1)))

    one_there : (c : ℕ) → is_for pair.reader c || goes_over (rule_named g pair.reader).parts pair.part c ≡ true
        → Meets IsKid c (any ∷ []) (below_of (at t p))
    one_there c e =
        ⊎_elim (λ for_it. meets_one c (below_of (at t p)) any k (own_kid c for_it, tt))
        (λ over. meets_one c (below_of (at t p)) any shows.read.0 (
          kid_exists c shows.read.0 (below_of (at t p))
              (over_hand (rule_named g pair.reader).parts pair.part (kids_at t p) k shows.read.0 c over shows.read.1),
          tt,
        ))
        (either_true (is_for pair.reader c) (goes_over (rule_named g pair.reader).parts pair.part c) e)

    kids_met : (c : ℕ) → c < g.child_count (class_of_rule pair.reader)
        → Meets IsKid c (reader_kids g pair c) (below_of (at t p))
    kids_met c known =
        elim (is_for pair.reader c && is_then pair.part) as
        (λ b. (is_for pair.reader c && is_then pair.part ≡ b)
        → Meets IsKid c (if b then two_kids pair.read (read_kid pair.runs_at pair.writer)
        else (if reads_child pair.read c then read_kid pair.runs_at pair.writer ∷ []
        else (if is_for pair.reader c || goes_over (rule_named g pair.reader).parts pair.part c then any ∷ []
        else singles_alone g any (class_of_rule pair.reader) c))) (below_of (at t p))) [
          | true ↦ λ e. let b = both_true (is_for pair.reader c) (is_then pair.part) e in two_met c b.0 b.1
          | false ↦ λ e.
              elim (reads_child pair.read c) as
              (λ b. (reads_child pair.read c ≡ b)
              → Meets IsKid c (if b then read_kid pair.runs_at pair.writer ∷ []
              else (if is_for pair.reader c || goes_over (rule_named g pair.reader).parts pair.part c then any ∷ []
              else singles_alone g any (class_of_rule pair.reader) c)) (below_of (at t p))) [
                | true ↦ λ e. one_read c e
                | false ↦ λ e.
                    elim (is_for pair.reader c || goes_over (rule_named g pair.reader).parts pair.part c) as
                    (λ b. (is_for pair.reader c || goes_over (rule_named g pair.reader).parts pair.part c ≡ b)
                    → Meets IsKid c (if b then any ∷ [] else singles_alone g any (class_of_rule pair.reader) c)
                    (below_of (at t p))) [
                      | true ↦ λ e. one_there c e
                      | false ↦ λ e. alone_met IsKid any p there (class_of_rule pair.reader) c class known (λ m. tt)
                    ] refl
              ] refl
        ] refl

    reader_place : IsReaderPlace g pair (class_at t p) (below_of (at t p))
    reader_place = (class, kids_met)

    -- where the writer runs at the parent
    parent_place : Writes g (class_of_rule pair.reader) pair.read parent_class pair.writer
        → HasPlace (IsPlaceAt g parent_class pair) t
    parent_place writes = by_node p refl
      where
        named : (above c a : ℕ) × (pair.writer ≡ for_child above c a) × (pair.read ≡ self_read a)
            × (g.sort a ≡ inherited) × (c < g.child_count above) × (above < g.class_count)
        named = parent_writes g (class_of_rule pair.reader) pair.read pair.writer writes

        w_is : w ≡ instance_of p named.2
        w_is =
            shows.read.2.2
            ∙ ap (seen_from p) (one_in (own named.2) shows.read.2.0
            (subst (λ y. Contains (occurrences (kids_at t p) shows.read.0 y) shows.read.2.0) named.4 shows.read.2.1))

        name_is : rule_name t inherited p named.2 ≡ for_child named.0 named.1 named.2
        name_is =
            subst (λ s. rule_name t s p named.2 ≡ for_child named.0 named.1 named.2) named.5
            (subst (λ (i : Instance). rule_name t (g.sort i.attribute) i.node i.attribute ≡ for_child named.0 named.1 named.2)
            w_is (shows.writer ∙ named.3))

        by_node : (q : Path) → p ≡ q → HasPlace (IsPlaceAt g parent_class pair) t
        by_node top e =
            absurd (let f : for_self (class_at t top) named.2 ≡ for_child named.0 named.1 named.2 =
            subst (λ q. rule_name t inherited q named.2 ≡ for_child named.0 named.1 named.2) e name_is in
            let z : ⊥ = grind (arith, f) in z)
        by_node (down c m q) e =
            let f : for_child (class_at t q) c named.2 ≡ for_child named.0 named.1 named.2 =
            subst (λ q. rule_name t inherited q named.2 ≡ for_child named.0 named.1 named.2) e name_is in
            let writer_is : pair.writer ≡ for_child (class_at t q) c named.2 = named.3 ∙ sym f in
            let above : Has t q = has_parent t c m q (subst (Has t) e there) in
            (q, above, (sym (ap class_of_rule writer_is), (λ d known. kid_met c m q e writer_is above d known)))
          where
            kid_met : (c m : ℕ) (q : Path) → p ≡ down c m q → pair.writer ≡ for_child (class_at t q) c named.2 → Has t q
                → (d : ℕ) → d < g.child_count (class_of_rule pair.writer)
                → Meets (IsReaderOr (IsReaderPlace g pair)) d (writer_kids g pair.writer d) (below_of (at t q))
            kid_met c m q e writer_is above d known =
                elim (is_for pair.writer d) as (λ b. (is_for pair.writer d ≡ b)
                → Meets (IsReaderOr (IsReaderPlace g pair)) d
                (if b then true ∷ [] else singles_alone g false (class_of_rule pair.writer) d) (below_of (at t q))) [
                  | true ↦ λ f.
                      let same : c ≡ d = eqb-true c d (subst (λ x. is_for x d ≡ true) writer_is f) in
                      subst (λ x. Meets (IsReaderOr (IsReaderPlace g pair)) x (true ∷ []) (below_of (at t q))) same (
                        m,
                        subst (Has t) e there,
                        subst (λ y. IsReaderPlace g pair (class_at t y) (below_of (at t y))) e reader_place,
                        tt,
                      )
                  | false ↦ λ f.
                      alone_met (IsReaderOr (IsReaderPlace g pair)) false q above (class_of_rule pair.writer) d
                      (sym (ap class_of_rule writer_is)) known (λ m. tt)
                ] refl

    pub shown_place : HasPlace (IsPlaceAt g pair.runs_at pair) t
    shown_place = by_place pair.runs_at is.1
      where
        by_place : (at_it : Where) → Writes g (class_of_rule pair.reader) pair.read at_it pair.writer
            → HasPlace (IsPlaceAt g at_it pair) t
        by_place same_class h = (p, there, reader_place)
        by_place child_class h = (p, there, reader_place)
        by_place parent_class h = parent_place h
