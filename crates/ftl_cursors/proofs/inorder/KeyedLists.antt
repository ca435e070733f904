-- The attributes of a kind by key are those of the pass's list, in its order.
use Rattle.std.proofs.Common.{◌≡◌, ◌≢◌, ℕ, suc, ◌<◌, ◌≤◌, ◌==◌, ◌&&◌, Bool, true, false, if◌then◌else◌, List, [], ◌∷◌, filter, get_or, refl, sym, ◌∙◌, ap, ap₂, subst, ⊎_elim, arith, eqb-true, eq-eqb, Contains}
use Rattle.std.proofs.lemmas.Bool.{and_parts}
use Rattle.std.proofs.lemmas.List.Elements.{Contains-append_cases}
use Rattle.ftl_model.specs.lists.Lists.{is_listed, place_in}
use Rattle.ftl_model.proofs.lists.Elements.{distinct-filter, filter_has, here_in, in_cases, in_filter, later_in, nothing_in}
use Rattle.ftl_model.proofs.lists.Listed.{counted_in, is_there, listed}
use Rattle.ftl_model.proofs.lists.Places.{place_is}
use Rattle.ftl_model.proofs.lists.Rising.{Rising, rising_more, strictly}
use Rattle.ftl_model.proofs.lists.Sorted.{distinct-sorted, none_falls-sorted}
use Rattle.ftl_model.specs.layout.AttributeGrammar.{AttributeGrammar, Sort, attributes_of, inherited, input, local, synthesized}
use Rattle.ftl_order.specs.orders.Lawful.{IsLawful, OfClass, class_owner, interface_owner}
use Rattle.ftl_order.specs.orders.Schedule.{EachStandsOnce, IsOnePass, Placing, Schedule, SchedulePlace, entries, pass_at, placing_of}
use Rattle.ftl_order.specs.orders.Schedule.{stage_of}
use Rattle.ftl_order.specs.orders.Sequence.{is_in_pass, is_same_sort, keyed}
use Rattle.ftl_order.proofs.orders.Owners.{attribute_known, class_distinct}
use Rattle.ftl_order.proofs.orders.SequenceAddresses.{is_keyed, same_sort}
use Rattle.ftl_order.proofs.orders.SequenceHas.{keyed_has}
use Rattle.ftl_items.specs.stage_items.Items.{pass_place}
use Rattle.ftl_items.proofs.stage_items.Passes.{listed_at, many, stage_here}
use Rattle.ftl_items.proofs.stage_items.Pieces.{counted_here, counted_more, in_counted}
use Rattle.ftl_cursors.proofs.inorder.ListedRules.{is_kept}

-- two tests that follow of each other are one
pub one_test : (p q : Bool) → (p ≡ true → q ≡ true) → (q ≡ true → p ≡ true) → p ≡ q
one_test true q f h = sym (f refl)
one_test false true f h = h refl
one_test false false f h = refl

both_pass : (p q : Bool) → p ≡ true → q ≡ true → (p && q) ≡ true
both_pass p q a b = ap₂ (λ x y. x && y) a b

itself : (sort : Sort) → is_same_sort sort sort ≡ true
itself input = refl
itself inherited = refl
itself synthesized = refl
itself local = refl

-- an attribute of a class is one of the grammar
of_class_known : (g : AttributeGrammar) → IsLawful g → (class : ℕ) → class < g.class_count → (a : ℕ) → OfClass g class a
    → a < g.attribute_count
of_class_known g law class known a of =
    ⊎_elim
    (λ shared. attribute_known g law (interface_owner (g.interface class)) a (law.interfaces_known class known, shared))
    (λ own. attribute_known g law (class_owner class) a (known, own))
    (Contains-append_cases (g.shared (g.interface class)) (g.private class) a of)

-- two lists that rise by a number and have the same entries are one
one_list : (f : ℕ → ℕ) (xs ys : List ℕ) → Rising (λ a b. f a < f b) xs → Rising (λ a b. f a < f b) ys
    → ((a : ℕ) → Contains xs a → Contains ys a) → ((a : ℕ) → Contains ys a → Contains xs a) → xs ≡ ys
one_list f [] [] rx ry there back = refl
one_list f [] (y ∷ ys) rx ry there back = absurd (nothing_in y (back y (here_in y ys)))
one_list f (x ∷ xs) [] rx ry there back = absurd (nothing_in x (there x (here_in x xs)))
one_list f (x ∷ xs) (y ∷ ys) rx ry there back =
    let same : x ≡ y =
    ⊎_elim (λ (e : y ≡ x). sym e)
    (λ (x_later : Contains ys x).
    let a = ry.0 x x_later in
    ⊎_elim (λ (e : x ≡ y). e)
    (λ (y_later : Contains xs y). let b = rx.0 y y_later in absurd (let z : ⊥ = omega (arith, a, b) in z))
    (in_cases x y xs (back y (here_in y ys))))
    (in_cases y x ys (there x (here_in x xs))) in
    ap₂ (λ z zs. z ∷ zs) same
    (one_list f xs ys rx.1 ry.1
    (λ a ha.
    ⊎_elim
    (λ (e : y ≡ a).
    let up = rx.0 a ha in let q : f x ≡ f a = ap f (same ∙ e) in absurd (let z : ⊥ = omega (arith, up, q) in z))
    (λ later. later) (in_cases y a ys (there a (later_in x a xs ha))))
    (λ a ha.
    ⊎_elim
    (λ (e : x ≡ a).
    let up = ry.0 a ha in let q : f y ≡ f a = ap f (sym same ∙ e) in absurd (let z : ⊥ = omega (arith, up, q) in z))
    (λ later. later) (in_cases x a xs (back a (later_in y a ys ha)))))

-- entries that pass a test and stand once rise by their places
module _ (q : ℕ → Bool) where
  -- none of those behind is the first
  apart : (x : ℕ) (xs : List ℕ) → (q x ≡ true → many x (x ∷ xs) ≤ 1) → (a : ℕ) → Contains (filter q xs) a
      → (a == x) ≡ false
  apart x xs few a there =
      elim (a == x) as (λ b. (a == x) ≡ b → b ≡ false) [
        | true ↦ λ e.
            let same = eqb-true a x e in
            let inside = in_filter q xs a there in
            let some = in_counted xs x (subst (Contains xs) same inside.0) in
            let most = few (ap q (sym same) ∙ inside.1) in
            let one = counted_here x x xs refl in
            absurd (let z : ⊥ = omega (arith, some, most, one) in z)
        | false ↦ λ e. refl
      ]
      refl

  fewer : (x : ℕ) (xs : List ℕ) (a : ℕ) → many a (x ∷ xs) ≤ 1 → many a xs ≤ 1
  fewer x xs a few = let more = counted_more a x xs in omega (arith, few, more)

  pub rising_places : (xs : List ℕ) → ((a : ℕ) → Contains xs a → q a ≡ true → many a xs ≤ 1)
      → Rising (λ a b. place_in xs a < place_in xs b) (filter q xs)
  rising_places [] few = tt
  rising_places (x ∷ xs) few =
      let off = apart x xs (λ e. few x (here_in x xs) e) in
      let past = λ (a : ℕ) (there : Contains (filter q xs) a).
      ap (λ (b : Bool). if b then 0 else suc (place_in xs a)) (off a there) in
      let rest =
      rising_more (λ a b. place_in xs a < place_in xs b) (λ a b. place_in (x ∷ xs) a < place_in (x ∷ xs) b)
      (filter q xs)
      (λ a b ha hb less.
      let ea = past a ha in
      let eb = past b hb in
      (let z : place_in (x ∷ xs) a < place_in (x ∷ xs) b = omega (arith, ea, eb, less) in z))
      (rising_places xs (λ a there e. fewer x xs a (few a (later_in x a xs there) e))) in
      let first : place_in (x ∷ xs) x ≡ 0 = ap (λ (b : Bool). if b then 0 else suc (place_in xs x)) (eq-eqb x x refl) in
      elim (q x) as
      (λ b. Rising (λ a b. place_in (x ∷ xs) a < place_in (x ∷ xs) b) (if b then x ∷ filter q xs else filter q xs)) [
        | true ↦ (
          (λ b there.
              let e = past b there in
              (let z : place_in (x ∷ xs) x < place_in (x ∷ xs) b = omega (arith, first, e) in z)),
          rest,
        )
        | false ↦ rest
      ]

-- each computed attribute stands at most once in the lists, and each that is placed in this pass is listed
pub record OwnsPass (g : AttributeGrammar) (s : Schedule) (m n : ℕ) : Type 0 where
  pub few : (a : ℕ) → a < g.attribute_count → g.sort a ≢ input → many a (entries s) ≤ 1
  pub listed : (a : ℕ) → a < g.attribute_count → g.sort a ≢ input → IsOnePass (placing_of s a) (pass_place m n)
      → Contains (entries s) a

-- so it is where each stands once
pub once_owns : (g : AttributeGrammar) (s : Schedule) → EachStandsOnce g s → (m n : ℕ) → OwnsPass g s m n
once_owns g s ordered m n = record {
  few = λ a known computed. (let e = ordered a known computed in let z : many a (entries s) ≤ 1 = omega (arith, e) in z);
  listed = λ a known computed one. counted_in (entries s) a (let e = ordered a known computed in omega (arith, e));
}

module _ (g : AttributeGrammar) (law : IsLawful g) (s : Schedule) (m n : ℕ) (owns : OwnsPass g s m n) where
  abbrev attributes : List ℕ
  attributes = (pass_at s m n).attributes

  abbrev place : Placing
  place = placing_of s

  abbrev here : SchedulePlace
  here = pass_place m n

  module _ (sort : Sort) (computed : sort ≢ input) (class : ℕ) (known : class < g.class_count) where
    few_of : (a : ℕ) → g.sort a ≡ sort → OfClass g class a → many a (entries s) ≤ 1
    few_of a is of = owns.few a (of_class_known g law class known a of) (λ e. computed (sym is ∙ e))

    once : (a : ℕ) → g.sort a ≡ sort → OfClass g class a → IsOnePass (place a) here → many a (entries s) ≡ 1
    once a is of one =
        let most = few_of a is of in
        let some =
        in_counted (entries s) a (owns.listed a (of_class_known g law class known a of) (λ e. computed (sym is ∙ e)) one)
        in
        omega (arith, most, some)

    -- one of the list stands in this pass, at its place there
    in_pass : (a : ℕ) → g.sort a ≡ sort → OfClass g class a → Contains attributes a → IsOnePass (place a) here
    in_pass a is of there =
        let found = stage_here s m n a (few_of a is of) there in
        (found.stage, found.pass)

    index_is : (a : ℕ) → IsOnePass (place a) here → (place a).index ≡ place_in attributes a
    index_is a one = ap₂ (λ i j. place_in (pass_at s i j).attributes a) one.0 one.1

    -- and what stands in the pass is of its list
    in_list : (a : ℕ) → g.sort a ≡ sort → OfClass g class a → IsOnePass (place a) here → Contains attributes a
    in_list a is of one =
        subst (λ i. Contains (pass_at s i n).attributes a) one.0
        (subst (λ j. Contains (pass_at s (stage_of s a) j).attributes a) one.1 (listed_at s a (once a is of one)).there)

    abbrev kept : ℕ → Bool
    kept a = is_kept g sort (attributes_of g class) a

    kept_parts : (a : ℕ) → kept a ≡ true → (g.sort a ≡ sort) × OfClass g class a
    kept_parts a e =
        let both = and_parts (is_same_sort (g.sort a) sort) (is_listed (attributes_of g class) a) e in
        (same_sort (g.sort a) sort both.0, is_there (attributes_of g class) a both.1)

    pub keyed_is : keyed g place here sort class ≡ filter kept attributes
    keyed_is =
        let own = keyed g place here sort class in
        one_list (λ a. (place a).index) own (filter kept attributes)
        (strictly (λ a. (place a).index) own
        (none_falls-sorted (λ a. (place a).index)
        (filter (λ a. is_same_sort (g.sort a) sort && is_in_pass place here a) (attributes_of g class)))
        (distinct-sorted (λ a. (place a).index)
        (filter (λ a. is_same_sort (g.sort a) sort && is_in_pass place here a) (attributes_of g class))
        (distinct-filter (λ a. is_same_sort (g.sort a) sort && is_in_pass place here a) (attributes_of g class)
        (class_distinct g law class known)))
        (λ a b ha hb e.
        let ka = is_keyed g place here sort class a ha in
        let kb = is_keyed g place here sort class b hb in
        sym (place_is attributes a 0 (in_list a ka.sort_is ka.of ka.pass))
        ∙ ap (λ i. get_or attributes i 0) (sym (index_is a ka.pass) ∙ e ∙ index_is b kb.pass)
        ∙ place_is attributes b 0 (in_list b kb.sort_is kb.of kb.pass)))
        (rising_more (λ a b. place_in attributes a < place_in attributes b) (λ a b. (place a).index < (place b).index)
        (filter kept attributes)
        (λ a b ha hb less.
        let ia = in_filter kept attributes a ha in
        let ib = in_filter kept attributes b hb in
        let pa = kept_parts a ia.1 in
        let pb = kept_parts b ib.1 in
        let ea = index_is a (in_pass a pa.0 pa.1 ia.0) in
        let eb = index_is b (in_pass b pb.0 pb.1 ib.0) in
        (let z : (place a).index < (place b).index = omega (arith, less, ea, eb) in z))
        (rising_places kept attributes
        (λ a there e.
        let p = kept_parts a e in
        (stage_here s m n a (few_of a p.0 p.1) there).few)))
        (λ a there.
        let k = is_keyed g place here sort class a there in
        filter_has kept attributes a (in_list a k.sort_is k.of k.pass)
        (both_pass (is_same_sort (g.sort a) sort) (is_listed (attributes_of g class) a)
        (ap (λ w. is_same_sort w sort) k.sort_is ∙ itself sort) (listed (attributes_of g class) a k.of)))
        (λ a there.
        let i = in_filter kept attributes a there in
        let p = kept_parts a i.1 in
        keyed_has g place here sort class a p.0 p.1 (in_pass a p.0 p.1 i.0))
