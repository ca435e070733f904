-- The least size of a tree that shows a pair.
use Rattle.std.proofs.Common.{◌≡◌, ℕ, ◌<◌, ◌&&◌, ◌||◌, Bool, true, false, if◌then◌else◌, refl, sym, ◌∙◌, ap, subst, ⊎_elim, arith, [], ◌∷◌, length, Contains, Option, Some, eqb-true, eq-eqb}
use Rattle.std.specs.List.{AllByRecursion}
use Rattle.ftl_model.specs.layout.Tree.{Forest, below_of, count_in, size}
use Rattle.ftl_model.specs.layout.Path.{at, down}
use Rattle.ftl_model.specs.layout.AttributeGrammar.{AttributeGrammar, Read, RuleName, each_read, for_child, for_self, last_read, prev_read, reads_in, self_read, single_read, this_read}
use Rattle.ftl_model.specs.layout.Solves.{Instance, rule_named}
use Rattle.ftl_model.specs.layout.TreeOf.{IsTreeOf}
use Rattle.ftl_order.specs.orders.Lawful.{IsLawful, IsRule, class_of_rule}
use Rattle.ftl_order.specs.orders.Pairs.{IsPair, Pair, Where, Writes, child_class, parent_class, same_class}
use Rattle.ftl_order.proofs.orders.Kids.{kid_exists}
use Rattle.ftl_example.specs.shows.Bare.{IsBare}
use Rattle.ftl_example.specs.shows.Examples.{ShowsPair}
use Rattle.ftl_example.specs.sizes.Least.{HasInterfaces, least}
use Rattle.ftl_example.specs.sizes.Place.{IsJustPlaceAt, IsKid, IsPlaceAt, IsReaderJust, IsReaderOr, IsReaderPlace, Kid, any, example_size, goes_over, is_for, is_then, kid_sizes, of_class, place_size_at, read_kid, reader_kids, reader_or_size, reader_size, reads_child, singles_alone, two_kids, writer_kids}
use Rattle.ftl_example.specs.shows.Places.{HasPlace}
use Rattle.ftl_example.specs.sizes.Reach.{AreFewest, AreSizes, IsAtMost}
use Rattle.ftl_example.specs.shows.Shows.{Shows}
use Rattle.ftl_example.specs.sizes.Wants.{AreKids, Meets}
use Rattle.ftl_example.proofs.sizes.Places.{all_fewest, all_sizes, no_fewer, one_so}
use Rattle.ftl_example.proofs.shows.PlaceShows.{child_may, reader_shows}
use Rattle.ftl_example.proofs.shows.ReadFacts.{child_writes, no_true, parent_writes}
use Rattle.ftl_example.proofs.shows.ShownPlace.{both_true, shown_place}
use Rattle.ftl_example.proofs.sizes.WithKids.{wanted_built, wanted_few}

module _ (g : AttributeGrammar) (law : IsLawful g) where
  abbrev all : ℕ → Option ℕ
  all = least g g.interface_count

  pub interfaces : HasInterfaces g g.interface_count
  interfaces = law.interfaces_known

  pub all_few : AreFewest g (λ class below. Unit {0}) (least g g.interface_count)
  all_few = all_fewest g (λ class below. Unit {0}) (least g g.interface_count) g.interface_count interfaces

  pub all_so : AreSizes g (λ class below. Unit {0}) (least g g.interface_count)
  all_so = all_sizes g (λ class below. Unit {0}) (least g g.interface_count) g.interface_count interfaces

  -- ---- kids

  -- a node has a tree in each single child
  alone_met : {W : Type 0} (x : W) (k : ℕ) (below : Forest)
      → ((c : ℕ) → c < g.child_count k → g.is_list k c ≡ false → count_in c below ≡ 1)
      → (c : ℕ) → c < g.child_count k
      → Meets (λ (x : W) class below. Unit {0}) c (singles_alone g x k c) below
  alone_met {W} x k below singles c known =
      elim (g.is_list k c) as (λ b. (g.is_list k c ≡ b)
      → Meets (λ (x : W) class below. Unit {0}) c (if b then [] else x ∷ []) below) [
        | true ↦ λ e. tt
        | false ↦ λ e. (
          0,
          kid_exists c 0 below (let one = singles c known e in omega (arith, one)),
          tt,
          tt,
        )
      ] refl

  pub alone_length : {W : Type 0} (x : W) (k c : ℕ) → g.is_list k c ≡ false → length (singles_alone g x k c) ≡ 1
  alone_length x k c e = ap (λ b. length (if b then [] else x ∷ [])) e

  alone_each : {W : Type 0} (P : W → Type 0) (x : W) (k c : ℕ) → P x → AllByRecursion P (singles_alone g x k c)
  alone_each P x k c h =
      elim (g.is_list k c) as (λ b. AllByRecursion P (if b then [] else x ∷ [])) [ true ↦ tt | false ↦ (h, tt) ]

  kid_few : (x : Kid) → AreFewest g (IsKid x) (kid_sizes g (least g g.interface_count) x)
  kid_few any i n node = all_few i n node
  kid_few (of_class k) i n node =
      wanted_few g Kid (λ x class below. Unit {0}) (λ x. least g g.interface_count) (λ x. all_few) (singles_alone g any k) k i n (
        node.0,
        node.1,
        node.2,
        node.3,
        node.4,
        node.5,
        (node.6, alone_met any k node.2 (subst (λ x. (c : ℕ) → c < g.child_count x → g.is_list x c ≡ false → count_in c node.2 ≡ 1) node.6 node.4.singles)),
        node.7,
      )

  -- a class of the grammar
  abbrev pub Known : Kid → Type 0
  Known any = Unit {0}
  Known (of_class k) = k < g.class_count

  kid_so : (x : Kid) → Known x → AreSizes g (IsKid x) (kid_sizes g (least g g.interface_count) x)
  kid_so any known i n e = all_so i n e
  kid_so (of_class k) known i n e =
      let b = wanted_built g Kid (λ x class below. Unit {0}) (λ x. least g g.interface_count) (λ x. Unit {0}) (λ x known. all_so)
      (singles_alone g any k) (λ c. alone_each (λ x. Unit {0}) any k c tt) k known (λ c low single. alone_length any k c single) i n e in
      (b.0, b.1, b.2, b.3, b.4, b.5, b.6.0, b.7)

  module _ (pair : Pair) (is : IsPair g pair) where
    pub rule_known : (w : RuleName) → IsRule g w → class_of_rule w < g.class_count
    rule_known (for_self k a) h = h.0
    rule_known (for_child k c a) h = h.0

    pub read_known : Known (read_kid pair.runs_at pair.writer)
    read_known = by_place pair.runs_at is.1
      where
        by_place : (at_it : Where) → Writes g (class_of_rule pair.reader) pair.read at_it pair.writer
            → Known (read_kid at_it pair.writer)
        by_place same_class h = tt
        by_place parent_class h = tt
        by_place child_class h =
            let n = child_writes g (class_of_rule pair.reader) pair.read pair.writer h in
            subst (λ w. class_of_rule w < g.class_count) (sym n.2) n.3

    two_known : (r : Read) → AllByRecursion Known (two_kids r (read_kid pair.runs_at pair.writer))
    two_known (self_read a) = (tt, (tt, tt))
    two_known (single_read d a) = (tt, (tt, tt))
    two_known (each_read d a) = (tt, (tt, tt))
    two_known (this_read d a) = (tt, (read_known, tt))
    two_known (prev_read d a) = (read_known, (tt, tt))
    two_known (last_read d a) = (tt, (tt, tt))

    pub each_known : (c : ℕ) → AllByRecursion Known (reader_kids g pair c)
    each_known c =
        elim (is_for pair.reader c && is_then pair.part) as
        (λ b. AllByRecursion Known (if b then two_kids pair.read (read_kid pair.runs_at pair.writer)
        else (if reads_child pair.read c then read_kid pair.runs_at pair.writer ∷ []
        else (if is_for pair.reader c || goes_over (rule_named g pair.reader).parts pair.part c then any ∷ []
        else singles_alone g any (class_of_rule pair.reader) c)))) [
          | true ↦ two_known pair.read
          | false ↦
              elim (reads_child pair.read c) as
              (λ b. AllByRecursion Known (if b then read_kid pair.runs_at pair.writer ∷ []
              else (if is_for pair.reader c || goes_over (rule_named g pair.reader).parts pair.part c then any ∷ []
              else singles_alone g any (class_of_rule pair.reader) c))) [
                | true ↦ (read_known, tt)
                | false ↦
                    elim (is_for pair.reader c || goes_over (rule_named g pair.reader).parts pair.part c) as
                    (λ b. AllByRecursion Known (if b then any ∷ [] else singles_alone g any (class_of_rule pair.reader) c))
                    [ true ↦ (tt, tt) | false ↦ alone_each Known any (class_of_rule pair.reader) c tt ]
              ]
        ]

    -- a rule with a part for later kids is over a list
    later_list : (w : RuleName) → IsRule g w → Contains (reads_in (rule_named g w).parts pair.part) pair.read → (c : ℕ)
        → is_for w c ≡ true → is_then pair.part ≡ true → g.is_list (class_of_rule w) c ≡ true
    later_list (for_self k a) rule h c e f = no_true e
    later_list (for_child k d a) rule h c e f =
        subst (λ x. g.is_list k x ≡ true) (eqb-true d c e)
        (⊎_elim (λ l. l.1.1) (λ l. absurd (let no = l.0 in let z : ⊥ = grind (arith, no, f) in z))
        (child_may g k d (g.child_rule k d a).parts pair.part pair.read (law.child_parts k d a rule) h))

    pub one_alone : (c : ℕ) → c < g.child_count (class_of_rule pair.reader) → g.is_list (class_of_rule pair.reader) c ≡ false
        → length (reader_kids g pair c) ≡ 1
    one_alone c known single =
        elim (is_for pair.reader c && is_then pair.part) as
        (λ b. (is_for pair.reader c && is_then pair.part ≡ b)
        → length (if b then two_kids pair.read (read_kid pair.runs_at pair.writer)
        else (if reads_child pair.read c then read_kid pair.runs_at pair.writer ∷ []
        else (if is_for pair.reader c || goes_over (rule_named g pair.reader).parts pair.part c then any ∷ []
        else singles_alone g any (class_of_rule pair.reader) c))) ≡ 1) [
          | true ↦ λ e.
              let b = both_true (is_for pair.reader c) (is_then pair.part) e in
              let list = later_list pair.reader is.0.0 is.0.1 c b.0 b.1 in
              absurd (let z : ⊥ = grind (arith, list, single) in z)
          | false ↦ λ e.
              elim (reads_child pair.read c) as
              (λ b. length (if b then read_kid pair.runs_at pair.writer ∷ []
              else (if is_for pair.reader c || goes_over (rule_named g pair.reader).parts pair.part c then any ∷ []
              else singles_alone g any (class_of_rule pair.reader) c)) ≡ 1) [
                | true ↦ refl
                | false ↦
                    elim (is_for pair.reader c || goes_over (rule_named g pair.reader).parts pair.part c) as
                    (λ b. length (if b then any ∷ [] else singles_alone g any (class_of_rule pair.reader) c) ≡ 1)
                    [ true ↦ refl | false ↦ alone_length any (class_of_rule pair.reader) c single ]
              ]
        ] refl

    reader_few : AreFewest g (IsReaderPlace g pair) (reader_size g (least g g.interface_count) pair)
    reader_few =
        wanted_few g Kid IsKid (kid_sizes g (least g g.interface_count)) kid_few (reader_kids g pair) (class_of_rule pair.reader)

    reader_so : AreSizes g (IsReaderJust g pair) (reader_size g (least g g.interface_count) pair)
    reader_so =
        wanted_built g Kid IsKid (kid_sizes g (least g g.interface_count)) Known kid_so (reader_kids g pair) each_known
        (class_of_rule pair.reader) (rule_known pair.reader is.0.0) one_alone

    -- ---- the place

    or_few : (x : Bool) → AreFewest g (IsReaderOr (IsReaderPlace g pair) x)
        (reader_or_size (reader_size g (least g g.interface_count) pair) (least g g.interface_count) x)
    or_few true = reader_few
    or_few false = all_few

    or_so : (x : Bool) → Unit {0} → AreSizes g (IsReaderOr (IsReaderJust g pair) x)
        (reader_or_size (reader_size g (least g g.interface_count) pair) (least g g.interface_count) x)
    or_so true known = reader_so
    or_so false known = all_so

    writer_each : (c : ℕ) → AllByRecursion (λ (x : Bool). Unit {0}) (writer_kids g pair.writer c)
    writer_each c =
        elim (is_for pair.writer c) as (λ b. AllByRecursion (λ (x : Bool). Unit {0})
        (if b then true ∷ [] else singles_alone g false (class_of_rule pair.writer) c))
        [ true ↦ (tt, tt) | false ↦ alone_each (λ (x : Bool). Unit {0}) false (class_of_rule pair.writer) c tt ]

    pub writer_alone : (c : ℕ) → c < g.child_count (class_of_rule pair.writer) → g.is_list (class_of_rule pair.writer) c ≡ false
        → length (writer_kids g pair.writer c) ≡ 1
    writer_alone c known single =
        elim (is_for pair.writer c) as
        (λ b. length (if b then true ∷ [] else singles_alone g false (class_of_rule pair.writer) c) ≡ 1)
        [ true ↦ refl | false ↦ alone_length false (class_of_rule pair.writer) c single ]

    pub place_few : (at_it : Where) → AreFewest g (IsPlaceAt g at_it pair) (place_size_at g (least g g.interface_count) at_it pair)
    place_few same_class = reader_few
    place_few child_class = reader_few
    place_few parent_class =
        wanted_few g Bool (IsReaderOr (IsReaderPlace g pair))
        (reader_or_size (reader_size g (least g g.interface_count) pair) (least g g.interface_count)) or_few
        (writer_kids g pair.writer) (class_of_rule pair.writer)

    pub place_so : (at_it : Where) → Writes g (class_of_rule pair.reader) pair.read at_it pair.writer
        → AreSizes g (IsJustPlaceAt g at_it pair) (place_size_at g (least g g.interface_count) at_it pair)
    place_so same_class h = reader_so
    place_so child_class h = reader_so
    place_so parent_class h =
        let n = parent_writes g (class_of_rule pair.reader) pair.read pair.writer h in
        wanted_built g Bool (IsReaderOr (IsReaderJust g pair))
        (reader_or_size (reader_size g (least g g.interface_count) pair) (least g g.interface_count)) (λ x. Unit {0}) or_so
        (writer_kids g pair.writer) writer_each (class_of_rule pair.writer)
        (subst (λ w. class_of_rule w < g.class_count) (sym n.3) n.7) writer_alone

    -- a tree that has just the place shows the pair
    pub place_shows : (t : Forest) → IsTreeOf g t → HasPlace (IsJustPlaceAt g pair.runs_at pair) t
        → (r w : Instance) × Shows g t pair r w
    place_shows t fits place = by_place pair.runs_at refl is.1 place
      where
        by_place : (at_it : Where) → pair.runs_at ≡ at_it → Writes g (class_of_rule pair.reader) pair.read at_it pair.writer
            → HasPlace (IsJustPlaceAt g at_it pair) t → (r w : Instance) × Shows g t pair r w
        by_place same_class e h (p, there, here) =
            reader_shows g law t fits pair is p there here.0 here.1
            (λ f. absurd (let z : ⊥ = grind (arith, e, f) in z))
        by_place child_class e h (p, there, here) =
            reader_shows g law t fits pair is p there here.0 here.1
            (λ f. absurd (let z : ⊥ = grind (arith, e, f) in z))
        by_place parent_class e h (q, there, here) =
            let n = parent_writes g (class_of_rule pair.reader) pair.read pair.writer h in
            let own : is_for pair.writer n.1 ≡ true = ap (λ w. is_for w n.1) n.3 ∙ eq-eqb n.1 n.1 refl in
            let low : n.1 < g.child_count (class_of_rule pair.writer) =
            subst (λ w. n.1 < g.child_count (class_of_rule w)) (sym n.3) n.6 in
            let kids = subst (λ b. AreKids (IsReaderOr (IsReaderJust g pair)) n.1
            (if b then true ∷ [] else singles_alone g false (class_of_rule pair.writer) n.1) (below_of (at t q))) own (here.1 n.1 low) in
            reader_shows g law t fits pair is (down n.1 0 q) kids.0 kids.1.0 kids.1.1
            (λ f. (n.1, 0, q, refl, here.0, own))

    pub none_smaller : (t : Forest) → ShowsPair g pair t → IsAtMost (example_size g pair) (size t)
    none_smaller t (fits, (r, w, shows)) =
        no_fewer g (IsPlaceAt g pair.runs_at pair) (place_size_at g (least g g.interface_count) pair.runs_at pair)
        g.interface_count interfaces (place_few pair.runs_at) t fits (shown_place g law t fits pair is r w shows)

    pub some_so : (n : ℕ) → example_size g pair ≡ Some n
        → (t : Forest) × IsTreeOf g t × IsBare g t × ((r w : Instance) × Shows g t pair r w) × (size t ≡ n)
    some_so n e =
        let o = one_so g (IsJustPlaceAt g pair.runs_at pair) (place_size_at g (least g g.interface_count) pair.runs_at pair)
        g.interface_count interfaces (place_so pair.runs_at is.1) n e in
        (o.0, o.1, o.2, place_shows o.0 o.1 o.3, o.4)
