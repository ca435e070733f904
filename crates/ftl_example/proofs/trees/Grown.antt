-- What is built has the size that its choices add up to.
use Rattle.std.proofs.Common.{◌≡◌, ℕ, zero, suc, ◌+◌, ◌<◌, ◌≤◌, ◌==◌, true, false, if◌then◌else◌, refl, sym, ◌∙◌, ap, subst, ⊎_elim, arith, List, [], ◌∷◌, length, Option, Some, eqb-true, eq-eqb}
use Rattle.std.proofs.lemmas.Bool.{cases_lt}
use Rattle.std.specs.List.{AllByRecursion}
use Rattle.std.specs.Prelude.{ℤ}
use Rattle.ftl_model.specs.layout.Tree.{Forest, tree, IsTree, class_of, below_of, size, count_in, from_kid}
use Rattle.ftl_example.specs.sizes.Wants.{beside_of}
use Rattle.ftl_model.specs.layout.AttributeGrammar.{AttributeGrammar}
use Rattle.ftl_model.specs.layout.TreeOf.{FitBelow, FitsClass, StartsFrom}
use Rattle.ftl_model.proofs.layout.Kids.{from_kid-here, from_kid-other}
use Rattle.ftl_example.specs.shows.Bare.{IsBare, bare_inputs}
use Rattle.ftl_example.specs.sizes.Least.{plus}
use Rattle.ftl_example.specs.sizes.Wants.{AreKids, below_size, kids_size}
use Rattle.ftl_example.proofs.sizes.Built.{bare_fits, some_same, starts_earlier, sum_of}
use Rattle.ftl_example.proofs.sizes.KidSums.{count_first}
use Rattle.ftl_example.specs.trees.Grown.{Choices, children_from, grown, kids_from}

module _ (g : AttributeGrammar) (W : Type 0) (Is : W → ℕ → Forest → Type 0) (size_of : W → ℕ → Option ℕ)
    (Known : W → Type 0) where
  -- a node of the interface that is so, of so many nodes
  pub record Good (x : W) (i n : ℕ) (node : ℕ × Forest) : Type 0 where
    pub interface : g.interface node.0 ≡ i
    pub fits : FitsClass g node.0 (bare_inputs g node.0) node.1
    pub fit_below : FitBelow g node.0 node.1
    pub bare : IsBare g node.1
    pub is : Is x node.0 node.1
    pub nodes : suc (size node.1) ≡ n

  -- what a choice has to be: the class is of the interface, the sizes add up, and such kids make it so
  pub record Unfolds (ch : Choices W) (w : W) (i n : ℕ) : Type 0 where
    pub interface : g.interface (ch.class_for w i) ≡ i
    pub known : ch.class_for w i < g.class_count
    pub sum :
        plus (Some 1) (below_size g size_of (ch.kids_for w i) (ch.class_for w i) (g.child_count (ch.class_for w i)))
        ≡ Some n
    pub alone :
        (c : ℕ) → c < g.child_count (ch.class_for w i) → g.is_list (ch.class_for w i) c ≡ false
        → length (ch.kids_for w i c) ≡ 1
    pub closes :
        (f : Forest)
        → ((c : ℕ) → c < g.child_count (ch.class_for w i) → AreKids Is c (ch.kids_for w i c) f)
        → Is w (ch.class_for w i) f
    pub each : (c : ℕ) → AllByRecursion Known (ch.kids_for w i c)

  module _ (pick : W → ℕ → ℕ × Forest) (most : ℕ)
      (good : (x : W) (i n : ℕ) → Known x → size_of x i ≡ Some n → n ≤ most → Good x i n (pick x i)) (k : ℕ)
      (wants : ℕ → List W) (each : (c : ℕ) → AllByRecursion Known (wants c)) where
    -- the kids of the children from the n-th on, and some of the n-th's last
    record Half (n nodes : ℕ) (xs : List W) (f : Forest) : Type 0 where
      pub fit : FitBelow g k f
      pub bare : IsBare g f
      pub starts : StartsFrom n f
      pub earlier : (c : ℕ) → c < n → count_in c f ≡ 0
      pub here : AreKids Is n xs f
      pub later : (c : ℕ) → n < c → c < g.child_count k → AreKids Is c (wants c) f
      pub is : size f ≡ nodes

    other_count : (l n c : ℕ) (i : List ℤ) (b s : Forest) → (n ≡ c → ⊥) → count_in c (tree l n i b s) ≡ count_in c s
    other_count l n c i b s differ =
        elim (n == c) as (λ t. (n == c ≡ t) → (if t then suc (count_in c s) else count_in c s) ≡ count_in c s)
        [ true ↦ λ e. absurd (differ (eqb-true n c e)) | false ↦ λ e. refl ] refl

    apart : (n c : ℕ) → (n ≡ c → ⊥) → n == c ≡ false
    apart n c differ =
        elim (n == c) as (λ t. (n == c ≡ t) → t ≡ false)
        [ true ↦ λ e. absurd (differ (eqb-true n c e)) | false ↦ λ e. refl ] refl

    other_kids : (l n c : ℕ) (i : List ℤ) (b s : Forest) → (n ≡ c → ⊥) → (xs : List W) → AreKids Is c xs s
        → AreKids Is c xs (tree l n i b s)
    other_kids l n c i b s differ [] h = other_count l n c i b s differ ∙ h
    other_kids l n c i b s differ (x ∷ xs) h =
        subst (λ f. IsTree f × Is x (class_of f) (below_of f) × AreKids Is c xs (beside_of f))
        (sym (from_kid-other c 0 l n i b s (apart n c differ))) h

    this_kid : (l n : ℕ) (i : List ℤ) (b s : Forest) (x : W) (xs : List W) → Is x l b → AreKids Is n xs s
        → AreKids Is n (x ∷ xs) (tree l n i b s)
    this_kid l n i b s x xs is h =
        subst (λ f. IsTree f × Is x (class_of f) (below_of f) × AreKids Is n xs (beside_of f))
        (sym (from_kid-here n l n i b s (eq-eqb n n refl))) (tt, is, h)

    kids_good : (n nodes m : ℕ) (xs : List W) → AllByRecursion Known xs → (rest : Forest) → n < g.child_count k → m ≤ most
        → kids_size size_of (g.child_interface k n) xs ≡ Some m → Half n nodes [] rest
        → Half n (m + nodes) xs (kids_from g pick (g.child_interface k n) n xs rest)
    kids_good n nodes m [] every rest known small e h =
        let z : nodes ≡ m + nodes = (let s = some_same 0 m e in omega (arith, s)) in subst (λ x. Half n x [] rest) z h
    kids_good n nodes m (x ∷ xs) every rest known small e h =
        let i = g.child_interface k n in
        let s = sum_of (size_of x i) (kids_size size_of i xs) m e in
        let t = s.sum in
        let node = pick x i in
        let y = good x i s.left every.0 s.is_left (omega (arith, small, t)) in
        let later = kids_from g pick i n xs rest in
        let r = kids_good n nodes s.right xs every.1 rest known (omega (arith, small, t)) s.is_right h in
        record {
          fit = (record { declared = known; interface = y.interface }, y.fits, y.fit_below, r.starts, r.fit);
          bare = (refl, y.bare, r.bare);
          starts = (let z : n ≤ n = omega arith in z);
          earlier = λ c low.
              other_count node.0 n c (bare_inputs g node.0) node.1 later (λ e. omega (arith, low, e)) ∙ r.earlier c low;
          here = this_kid node.0 n (bare_inputs g node.0) node.1 later x xs y.is r.here;
          later = λ c high low.
              other_kids node.0 n c (bare_inputs g node.0) node.1 later (λ e. omega (arith, high, e)) (wants c)
              (r.later c high low);
          is = (let a = y.nodes in let b = r.is in omega (arith, a, b, t));
        }

    -- the children from the n-th on
    abbrev Whole : ℕ → ℕ → Forest → Type 0
    Whole n nodes f = FitBelow g k f × IsBare g f × StartsFrom n f × ((c : ℕ) → c < n → count_in c f ≡ 0)
        × ((c : ℕ) → n ≤ c → c < g.child_count k → AreKids Is c (wants c) f) × (size f ≡ nodes)

    open_child : (n nodes : ℕ) (f : Forest) → Whole (suc n) nodes f → Half n nodes [] f
    open_child n nodes f w =
        record {
          fit = w.0;
          bare = w.1;
          starts = starts_earlier g n (suc n) f (omega arith) w.2;
          earlier = λ c low. w.3 c (omega (arith, low));
          here = w.3 n (omega arith);
          later = λ c high low. w.4 c (omega (arith, high)) low;
          is = w.5;
        }

    close_child : (n nodes : ℕ) (f : Forest) → Half n nodes (wants n) f → Whole n nodes f
    close_child n nodes f h = (
      h.fit,
      h.bare,
      h.starts,
      h.earlier,
      (λ c le low. ⊎_elim (λ less. h.later c less low)
          (λ more. subst (λ x. AreKids Is x (wants x) f) (let z : n ≡ c = omega (arith, le, more) in z) h.here)
          (cases_lt n c)),
      h.is,
    )

    -- so many children from child c on, where the sizes of all add up to `total`
    record Rest (c m total : ℕ) : Type 0 where
      pub before : ℕ
      pub nodes : ℕ
      pub is_before : below_size g size_of wants k c ≡ Some before
      pub sum : nodes + before ≡ total
      pub whole : Whole c nodes (children_from g pick wants k c m)

    children_good : (m c total : ℕ) → c + m ≡ g.child_count k → total ≤ most
        → below_size g size_of wants k (g.child_count k) ≡ Some total → Rest c m total
    children_good zero c total all small e =
        let z : g.child_count k ≡ c = omega (arith, all) in
        record {
          before = total;
          nodes = 0;
          is_before = subst (λ n. below_size g size_of wants k n ≡ Some total) z e;
          sum = omega arith;
          whole = (tt, tt, tt, (λ d low. refl), (λ d le low. absurd (omega (arith, all, le, low))), refl);
        }
    children_good (suc m) c total all small e =
        let r = children_good m (suc c) total (omega (arith, all)) small e in
        let rs = r.sum in
        let s = sum_of (kids_size size_of (g.child_interface k c) (wants c)) (below_size g size_of wants k c) r.before r.is_before in
        let t = s.sum in
        record {
          before = s.right;
          nodes = s.left + r.nodes;
          is_before = s.is_right;
          sum = omega (arith, rs, t);
          whole =
              close_child c (s.left + r.nodes) (children_from g pick wants k c (suc m))
              (kids_good c r.nodes s.left (wants c) (each c) (children_from g pick wants k (suc c) m) (omega (arith, all))
              (omega (arith, rs, t, small)) s.is_left (open_child c r.nodes (children_from g pick wants k (suc c) m) r.whole));
        }

    kids_count : (c : ℕ) (xs : List W) (f : Forest) → AreKids Is c xs f → count_in c f ≡ length xs
    kids_count c [] f h = h
    kids_count c (x ∷ xs) f h = count_first c f h.0 ∙ ap suc (kids_count c xs (beside_of (from_kid c 0 f)) h.2)

  -- what is built is so, and of its size
  pub grown_good : (ch : Choices W) → ((w : W) (i n : ℕ) → Known w → size_of w i ≡ Some n → Unfolds ch w i n) → (steps : ℕ) (w : W)
      (i n : ℕ) → Known w → size_of w i ≡ Some n → n ≤ steps → Good w i n (grown g ch steps w i)
  grown_good ch unfolds zero w i n is_known e small =
      let u = unfolds w i n is_known e in
      let s = sum_of (Some 1) (below_size g size_of (ch.kids_for w i) (ch.class_for w i) (g.child_count (ch.class_for w i))) n u.sum in
      absurd (let one = some_same 1 s.left s.is_left in let t = s.sum in omega (arith, one, t, small))
  grown_good ch unfolds (suc f) w i n is_known e small =
      let u = unfolds w i n is_known e in
      let k = ch.class_for w i in
      let wants = ch.kids_for w i in
      let s = sum_of (Some 1) (below_size g size_of wants k (g.child_count k)) n u.sum in
      let one = some_same 1 s.left s.is_left in
      let t = s.sum in
      let r = children_good (grown g ch f) f (λ x i n h e small. grown_good ch unfolds f x i n h e small) k wants u.each
      (g.child_count k) 0 s.right (omega arith) (omega (arith, one, t, small)) s.is_right in
      let zero_before = some_same 0 r.before r.is_before in
      let rs = r.sum in
      let below = children_from g (grown g ch f) wants k 0 (g.child_count k) in
      let nodes = r.whole.5 in
      record {
        interface = u.interface;
        fits =
            bare_fits g k u.known below
            (λ c low single.
            kids_count (grown g ch f) f (λ x i n h e small. grown_good ch unfolds f x i n h e small) k wants u.each c (wants c) below
            (r.whole.4 c (omega arith) low)
            ∙ u.alone c low single);
        fit_below = r.whole.0;
        bare = r.whole.1;
        is = u.closes below (λ c low. r.whole.4 c (omega arith) low);
        nodes = omega (arith, nodes, one, t, zero_before, rs);
      }
