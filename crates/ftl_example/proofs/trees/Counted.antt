-- By sizes that are counted up to a number, a tree of fewer nodes is built as by the sizes themselves.
use Rattle.std.proofs.Common.{◌≡◌, ℕ, zero, suc, ◌+◌, ◌<◌, ◌≤◌, ◌==◌, ◌&&◌, true, false, if◌then◌else◌, refl, sym, ◌∙◌, ap, ap₂, subst, ⊎_elim, arith, List, [], ◌∷◌, Option, None, Some, nat_le, leb-false, eqb-true}
use Rattle.std.specs.List.{AllByRecursion}
use Rattle.std.proofs.lemmas.Bool.{cases_lt}
use Rattle.ftl_model.specs.layout.AttributeGrammar.{AttributeGrammar}
use Rattle.ftl_model.specs.layout.Tree.{Forest}
use Rattle.ftl_order.specs.orders.Lawful.{IsLawful}
use Rattle.ftl_order.specs.orders.Pairs.{IsPair, Pair}
use Rattle.ftl_example.specs.sizes.Least.{capped, class_size, plus, singles, singles_up_to}
use Rattle.ftl_example.specs.sizes.Limited.{add, way_size_up_to, ways_up_to}
use Rattle.ftl_example.specs.sizes.Place.{example_size}
use Rattle.ftl_example.specs.sizes.Reach.{way_size, ways}
use Rattle.ftl_example.specs.sizes.Wants.{below_size, kids_size}
use Rattle.ftl_example.specs.trees.CountedChoices.{child_of_way, choices_up_to, class_size_up_to, least_class_up_to, way_child_up_to, way_class_up_to, way_of}
use Rattle.ftl_example.specs.trees.ExampleTree.{Want, any_tree, choices_by, class_tree, example_choices, on_way, place_class, place_kids, place_tree, reader_tree, way_child, way_class, way_tree}
use Rattle.ftl_example.specs.trees.Grown.{Choices, children_from, grown, is_size, kids_from, least_class}
use Rattle.ftl_example.specs.sizes.Place.{singles_alone}
use Rattle.ftl_example.proofs.sizes.Built.{sum_of}
use Rattle.ftl_example.proofs.sizes.Limited.{Cut, add_cut, one_cut, way_cut, ways_cut}
use Rattle.ftl_example.proofs.trees.ExampleTree.{Is as ExampleIs, IsKnown, all, size_by, start, unfolds, way}
use Rattle.ftl_example.proofs.trees.Grown.{Unfolds}

-- a number below the limit is told apart
below_limit : (most a m : ℕ) → m < most → (if nat_le a most then a else most) == m ≡ a == m
below_limit most a m less =
    elim (nat_le a most) as (λ t. (nat_le a most ≡ t) → (if t then a else most) == m ≡ a == m) [
      | true ↦ λ e. refl
      | false ↦ λ e. let l = leb-false a most e in differ most m (λ s. omega (arith, s, less)) ∙ sym (differ a m (λ s. omega (arith, s, l, less)))
    ] refl
  where
    differ : (x y : ℕ) → (x ≡ y → ⊥) → x == y ≡ false
    differ x y never =
        elim (x == y) as (λ t. (x == y ≡ t) → t ≡ false)
        [ true ↦ λ e. absurd (never (eqb-true x y e)) | false ↦ λ e. refl ] refl

capped_same : (most m : ℕ) → m < most → capped most (Some m) ≡ Some m
capped_same most m less =
    elim (nat_le m most) as (λ t. (nat_le m most ≡ t) → Some (if t then m else most) ≡ Some m)
    [ true ↦ λ e. refl | false ↦ λ e. absurd (let l = leb-false m most e in omega (arith, l, less)) ] refl

size_told : (most m : ℕ) → m < most → (x : Option ℕ) → is_size (capped most x) (Some m) ≡ is_size x (Some m)
size_told most m less None = refl
size_told most m less (Some a) = below_limit most a m less

told : (most m : ℕ) → m < most → (x y x' y' : Option ℕ) → y ≡ Some m → x' ≡ capped most x → y' ≡ capped most y
    → is_size x' y' ≡ is_size x y
told most m less x y x' y' is cut_x cut_y =
    ap₂ is_size cut_x (cut_y ∙ ap (capped most) is ∙ capped_same most m less)
    ∙ size_told most m less x
    ∙ ap (is_size x) (sym is)

module _ (most : ℕ) (g : AttributeGrammar) (all' all : ℕ → Option ℕ) (alls : Cut most all' all) where
  singles_cut : (k n : ℕ) → singles_up_to most g all' k n ≡ capped most (singles g all k n)
  singles_cut k zero = refl
  singles_cut k (suc n) =
      let rest = singles_cut k n in
      elim (g.is_list k n) as (λ t. (if t then singles_up_to most g all' k n
      else add most (all' (g.child_interface k n)) (singles_up_to most g all' k n))
      ≡ capped most (if t then singles g all k n else plus (all (g.child_interface k n)) (singles g all k n))) [
        | true ↦ rest
        | false ↦
            add_cut most (all (g.child_interface k n)) (singles g all k n) (all' (g.child_interface k n))
            (singles_up_to most g all' k n) (alls (g.child_interface k n)) rest
      ]

  class_cut : (k : ℕ) → class_size_up_to most g all' k ≡ capped most (class_size g all k)
  class_cut k =
      one_cut most (singles g all k (g.child_count k)) (singles_up_to most g all' k (g.child_count k))
      (singles_cut k (g.child_count k))

  least_same : (i m : ℕ) → all i ≡ Some m → m < most → (n : ℕ)
      → least_class_up_to most g all' i n ≡ least_class g all i n
  least_same i m is less zero = refl
  least_same i m is less (suc n) =
      ap₂ (λ t r. if (g.interface n == i) && t then n else r)
      (told most m less (class_size g all n) (all i) (class_size_up_to most g all' n) (all' i) is (class_cut n) (alls i))
      (least_same i m is less n)

  module _ (way' way : ℕ → Option ℕ) (cuts : Cut most way' way) (i m : ℕ) (is : way i ≡ Some m) (less : m < most) where
    way_class_same : (n : ℕ) → way_class_up_to most g all' way' i n ≡ way_class g all way i n
    way_class_same zero = refl
    way_class_same (suc n) =
        ap₂ (λ t r. if (g.interface n == i) && t then n else r)
        (told most m less (ways g all way n (g.child_count n)) (way i) (ways_up_to most g all' way' n (g.child_count n)) (way' i)
        is (ways_cut most g all' all alls way' way cuts n (g.child_count n)) (cuts i))
        (way_class_same n)

    way_child_same : (k n : ℕ) → way_child_up_to most g all' way' k i n ≡ way_child g all way k i n
    way_child_same k zero = refl
    way_child_same k (suc n) =
        ap₂ (λ t r. if t then n else r)
        (told most m less (way_size g all way k n) (way i) (way_size_up_to most g all' way' k n) (way' i) is
        (way_cut most g all' all alls way' way cuts k n) (cuts i))
        (way_child_same k n)

-- ---- choices that agree where the sizes are small

module _ (g : AttributeGrammar) (W : Type 0) (Is : W → ℕ → Forest → Type 0) (size_of : W → ℕ → Option ℕ)
    (Known : W → Type 0) (ch ch' : Choices W) (most : ℕ)
    (unfolds : (w : W) (i n : ℕ) → Known w → size_of w i ≡ Some n → Unfolds g W Is size_of Known ch w i n)
    (same_class : (w : W) (i n : ℕ) → size_of w i ≡ Some n → n < most → ch'.class_for w i ≡ ch.class_for w i)
    (same_kids : (w : W) (i n : ℕ) → size_of w i ≡ Some n → n < most → (c : ℕ) → ch'.kids_for w i c ≡ ch.kids_for w i c)
  where
    module _ (pick pick' : W → ℕ → ℕ × Forest)
        (same : (w : W) (i n : ℕ) → Known w → size_of w i ≡ Some n → n < most → pick' w i ≡ pick w i) where
      kids_same : (i c m : ℕ) (xs : List W) → AllByRecursion Known xs → kids_size size_of i xs ≡ Some m → m < most
          → (rest : Forest) → kids_from g pick' i c xs rest ≡ kids_from g pick i c xs rest
      kids_same i c m [] every e less rest = refl
      kids_same i c m (x ∷ xs) every e less rest =
          let s = sum_of (size_of x i) (kids_size size_of i xs) m e in
          let t = s.sum in
          ap₂ (λ node later. kids_from g (λ y j. node) i c (x ∷ []) later)
          (same x i s.left every.0 s.is_left (omega (arith, t, less)))
          (kids_same i c s.right xs every.1 s.is_right (omega (arith, t, less)) rest)

      module _ (k total : ℕ) (wants : ℕ → List W) (each : (c : ℕ) → AllByRecursion Known (wants c)) (less : total < most) where
        record Part (c : ℕ) : Type 0 where
          pub size : ℕ
          pub is : kids_size size_of (g.child_interface k c) (wants c) ≡ Some size
          pub small : size ≤ total

        part_of : (n some : ℕ) → below_size g size_of wants k n ≡ Some some → some ≤ total → (c : ℕ) → c < n → Part c
        part_of zero some e small c low = absurd (omega (arith, low))
        part_of (suc n) some e small c low =
            let s = sum_of (kids_size size_of (g.child_interface k n) (wants n)) (below_size g size_of wants k n) some e in
            let t = s.sum in
            ⊎_elim (λ earlier. part_of n s.right s.is_right (omega (arith, t, small)) c earlier)
            (λ later. subst Part (let z : n ≡ c = omega (arith, low, later) in z)
            (record { size = s.left; is = s.is_left; small = omega (arith, t, small) })) (cases_lt c n)

        children_same : (m c : ℕ) → c + m ≤ g.child_count k → below_size g size_of wants k (g.child_count k) ≡ Some total
            → children_from g pick' wants k c m ≡ children_from g pick wants k c m
        children_same zero c within e = refl
        children_same (suc m) c within e =
            let p = part_of (g.child_count k) total e (omega arith) c (omega (arith, within)) in
            let small = p.small in
            ap (kids_from g pick' (g.child_interface k c) c (wants c)) (children_same m (suc c) (omega (arith, within)) e)
            ∙ kids_same (g.child_interface k c) c p.size (wants c) (each c) p.is (omega (arith, small, less))
            (children_from g pick wants k (suc c) m)

    pub grown_same : (steps : ℕ) (w : W) (i n : ℕ) → Known w → size_of w i ≡ Some n → n < most
        → grown g ch' steps w i ≡ grown g ch steps w i
    grown_same zero w i n known e less = refl
    grown_same (suc f) w i n known e less =
        let u = unfolds w i n known e in
        let k = ch.class_for w i in
        let wants = ch.kids_for w i in
        let s = sum_of (Some 1) (below_size g size_of wants k (g.child_count k)) n u.sum in
        let t = s.sum in
        ap (λ x. (x, children_from g (grown g ch' f) (ch'.kids_for w i) x 0 (g.child_count x))) (same_class w i n e less)
        ∙ ap (λ x. (k, x))
        (wants_same (grown g ch' f) k (ch'.kids_for w i) wants (same_kids w i n e less) 0 (g.child_count k)
        ∙ children_same (grown g ch f) (grown g ch' f) (λ x j m h s small. grown_same f x j m h s small) k s.right wants u.each
        (omega (arith, t, less)) (g.child_count k) 0 (omega arith) s.is_right)
      where
        wants_same : (pick : W → ℕ → ℕ × Forest) (k : ℕ) (a b : ℕ → List W) → ((c : ℕ) → a c ≡ b c) → (c m : ℕ)
            → children_from g pick a k c m ≡ children_from g pick b k c m
        wants_same pick k a b h c zero = refl
        wants_same pick k a b h c (suc m) =
            ap₂ (kids_from g pick (g.child_interface k c) c) (h c) (wants_same pick k a b h (suc c) m)

-- ---- the choices for a pair

module _ (g : AttributeGrammar) (law : IsLawful g) (pair : Pair) (is : IsPair g pair) (most : ℕ)
    (all' start' way' : ℕ → Option ℕ) (alls : Cut most all' (all g law pair is))
    (starts : Cut most start' (start g law pair is)) (ways : Cut most way' (way g law pair is)) where
  abbrev ch : Choices Want
  ch = choices_by g pair (all g law pair is) (start g law pair is) (way g law pair is)

  abbrev ch' : Choices Want
  ch' = choices_up_to most g pair all' start' way'

  at_start : (i m : ℕ) → way g law pair is i ≡ Some m → m < most
      → is_size (start' i) (way' i) ≡ is_size (start g law pair is i) (way g law pair is i)
  at_start i m e less =
      told most m less (start g law pair is i) (way g law pair is i) (start' i) (way' i) e (starts i) (ways i)

  way_is : (i m : ℕ) → way g law pair is i ≡ Some m → m < most
      → way_of most g all' way' i ≡ way_class g (all g law pair is) (way g law pair is) i g.class_count
  way_is i m e less =
      way_class_same most g all' (all g law pair is) alls way' (way g law pair is) ways i m e less g.class_count

  same_class : (w : Want) (i m : ℕ) → size_by g law pair is w i ≡ Some m → m < most → ch'.class_for w i ≡ ch.class_for w i
  same_class any_tree i m e less = least_same most g all' (all g law pair is) alls i m e less g.class_count
  same_class (class_tree k) i m e less = refl
  same_class reader_tree i m e less = refl
  same_class place_tree i m e less = refl
  same_class way_tree i m e less =
      ap₂ (λ t k. if t then place_class pair.runs_at pair else k) (at_start i m e less) (way_is i m e less)

  child_is : (i m k : ℕ) → way g law pair is i ≡ Some m → m < most
      → child_of_way most g all' way' k i ≡ way_child g (all g law pair is) (way g law pair is) k i (g.child_count k)
  child_is i m k e less =
      way_child_same most g all' (all g law pair is) alls way' (way g law pair is) ways i m e less k (g.child_count k)

  same_kids : (w : Want) (i m : ℕ) → size_by g law pair is w i ≡ Some m → m < most → (c : ℕ)
      → ch'.kids_for w i c ≡ ch.kids_for w i c
  same_kids any_tree i m e less c =
      ap (λ k. singles_alone g any_tree k c) (least_same most g all' (all g law pair is) alls i m e less g.class_count)
  same_kids (class_tree k) i m e less c = refl
  same_kids reader_tree i m e less c = refl
  same_kids place_tree i m e less c = refl
  same_kids way_tree i m e less c =
      ap₂ (λ t k. if t then place_kids g pair.runs_at pair c else on_way g k (child_of_way most g all' way' k i) c)
      (at_start i m e less) (way_is i m e less)
      ∙ ap (λ d. if is_size (start g law pair is i) (way g law pair is i) then place_kids g pair.runs_at pair c
      else on_way g (way_class g (all g law pair is) (way g law pair is) i g.class_count) d c)
      (child_is i m (way_class g (all g law pair is) (way g law pair is) i g.class_count) e less)

  pub counted_grown : (n : ℕ) → example_size g pair ≡ Some n → n < most
      → grown g ch' n way_tree g.root ≡ grown g (example_choices g pair) n way_tree g.root
  counted_grown n e less =
      grown_same g Want (ExampleIs g law pair is) (size_by g law pair is) (IsKnown g law pair is) ch ch' most
      (unfolds g law pair is) same_class same_kids n way_tree g.root n tt e less
