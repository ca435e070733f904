-- The least size of a node of a class that has some kids is the sum of theirs.
use Rattle.std.proofs.Common.{◌≡◌, ℕ, zero, suc, ◌+◌, ◌<◌, ◌≤◌, ◌==◌, true, false, if◌then◌else◌, refl, sym, ◌∙◌, ap, subst, ⊎_elim, arith, List, [], ◌∷◌, length, Option, None, Some, eqb-true, eq-eqb}
use Rattle.std.specs.List.{AllByRecursion}
use Rattle.std.proofs.lemmas.Bool.{cases_lt}
use Rattle.std.specs.Prelude.{ℤ}
use Rattle.ftl_model.specs.layout.Tree.{Forest, none, tree, IsTree, class_of, inputs_of, below_of, size, count_in, from_kid}
use Rattle.ftl_example.specs.sizes.Wants.{beside_of}
use Rattle.ftl_model.specs.layout.AttributeGrammar.{AttributeGrammar}
use Rattle.ftl_model.specs.layout.TreeOf.{FitBelow, StartsFrom}
use Rattle.ftl_model.proofs.layout.Kids.{child-from_kid, from_kid-here, from_kid-other}
use Rattle.ftl_model.proofs.layout.Fits.{fit_from}
use Rattle.ftl_example.specs.shows.Bare.{IsBare, bare_inputs}
use Rattle.ftl_example.specs.sizes.Least.{plus}
use Rattle.ftl_example.specs.sizes.Reach.{AreFewest, AreSizes, IsAtMost, IsBareNode}
use Rattle.ftl_example.specs.sizes.Wants.{AreKids, HasJust, HasKids, Meets, below_size, kids_size, wanted_size}
use Rattle.ftl_example.proofs.sizes.Built.{bare_fits, some_same, starts_earlier, sum_of}
use Rattle.ftl_example.proofs.sizes.Fewest.{at_most_plus}
use Rattle.ftl_example.proofs.shows.FirstKid.{first_fits, first_stands}
use Rattle.ftl_example.proofs.sizes.KidSums.{child_size, children_all, children_size, count_first, kid_and_later}

fit_beside : (g : AttributeGrammar) (above : ℕ) (f : Forest) → FitBelow g above f → FitBelow g above (beside_of f)
fit_beside g above none h = tt
fit_beside g above (tree k d i b s) h = h.4

module _ (g : AttributeGrammar) (W : Type 0) (Is : W → ℕ → Forest → Type 0) (size_of : W → ℕ → Option ℕ) where
  module _ (few : (x : W) → AreFewest g (Is x) (size_of x)) where
    kids_few : (above c : ℕ) (xs : List W) (f : Forest) → FitBelow g above f → Meets Is c xs f
        → IsAtMost (kids_size size_of (g.child_interface above c) xs) (child_size c f)
    kids_few above c [] f fit meets = (0, refl, omega arith)
    kids_few above c (x ∷ xs) f fit (n, is, this, rest) =
        let kid = from_kid c n f in
        let fits = fit_from g above f c n fit in
        let part = first_fits g above kid is fits in
        let stands = first_stands g above kid is fits in
        let e : g.interface (class_of kid) ≡ g.child_interface above c =
        stands.interface ∙ ap (g.child_interface above) (child-from_kid c n f is) in
        let one = few x (g.child_interface above c) (suc (size (below_of kid)))
        (class_of kid, inputs_of kid, below_of kid, e, part.0, part.1, this, refl) in
        let later = kids_few above c xs (beside_of kid) (fit_beside g above kid fits) rest in
        let all = at_most_plus (size_of x (g.child_interface above c)) (kids_size size_of (g.child_interface above c) xs)
        (suc (size (below_of kid))) (child_size c (beside_of kid)) one later in
        let room = kid_and_later c n f is in
        (all.0, all.1, (let l = all.2 in omega (arith, l, room)))

    below_few : (wants : ℕ → List W) (k : ℕ) (f : Forest) → FitBelow g k f
        → ((c : ℕ) → c < g.child_count k → Meets Is c (wants c) f) → (n : ℕ) → n ≤ g.child_count k
        → IsAtMost (below_size g size_of wants k n) (children_size f n)
    below_few wants k f fit meets zero le = (0, refl, omega arith)
    below_few wants k f fit meets (suc n) le =
        at_most_plus (kids_size size_of (g.child_interface k n) (wants n)) (below_size g size_of wants k n)
        (child_size n f) (children_size f n)
        (kids_few k n (wants n) f fit (meets n (omega (arith, le))))
        (below_few wants k f fit meets n (omega (arith, le)))

    pub wanted_few : (wants : ℕ → List W) (k : ℕ) → AreFewest g (HasKids g Is wants k) (wanted_size g size_of wants k)
    wanted_few wants k i n node = go node.0 node.2 node.3 node.5 node.6.0 node.6.1 node.7
      where
        go : (class : ℕ) (below : Forest) → g.interface class ≡ i → FitBelow g class below → class ≡ k
            → ((c : ℕ) → c < g.child_count k → Meets Is c (wants c) below) → suc (size below) ≡ n
            → IsAtMost (wanted_size g size_of wants k i) n
        go class below interface fit same meets nodes =
            let kids = below_few wants k below (subst (λ x. FitBelow g x below) same fit) meets (g.child_count k) (omega arith) in
            let all = children_all below (g.child_count k) in
            let whole = at_most_plus (Some 1) (below_size g size_of wants k (g.child_count k)) 1
            (children_size below (g.child_count k)) (1, refl, omega arith) kids in
            let e : (g.interface k == i) ≡ true = eq-eqb (g.interface k) i (ap g.interface (sym same) ∙ interface) in (
              whole.0,
              ap (λ t. if t then plus (Some 1) (below_size g size_of wants k (g.child_count k)) else None) e ∙ whole.1,
              (let l = whole.2 in omega (arith, l, all, nodes)),
            )

  module _ (Known : W → Type 0) (sizes : (x : W) → Known x → AreSizes g (Is x) (size_of x)) (wants : ℕ → List W)
      (each : (c : ℕ) → AllByRecursion Known (wants c)) (k : ℕ) where
    -- what stands below a node: the kids of the children from the n-th on, and some of the n-th's first
    record Half (n nodes : ℕ) (xs : List W) : Type 0 where
      pub forest : Forest
      pub fit : FitBelow g k forest
      pub bare : IsBare g forest
      pub starts : StartsFrom n forest
      pub earlier : (c : ℕ) → c < n → count_in c forest ≡ 0
      pub here : AreKids Is n xs forest
      pub later : (c : ℕ) → n < c → c < g.child_count k → AreKids Is c (wants c) forest
      pub is : size forest ≡ nodes

    other_count : (l n c : ℕ) (i : List ℤ) (b s : Forest) → (n ≡ c → ⊥) → count_in c (tree l n i b s) ≡ count_in c s
    other_count l n c i b s differ =
        elim (n == c) as (λ t. (n == c ≡ t) → (if t then suc (count_in c s) else count_in c s) ≡ count_in c s)
        [ true ↦ λ e. absurd (differ (eqb-true n c e)) | false ↦ λ e. refl ] refl

    apart : (n c : ℕ) → (n ≡ c → ⊥) → n == c ≡ false
    apart n c differ =
        elim (n == c) as (λ t. (n == c ≡ t) → t ≡ false)
        [ true ↦ λ e. absurd (differ (eqb-true n c e)) | false ↦ λ e. refl ] refl

    -- past a tree of another child
    other_kids : (l n c : ℕ) (i : List ℤ) (b s : Forest) → (n ≡ c → ⊥) → (xs : List W) → AreKids Is c xs s
        → AreKids Is c xs (tree l n i b s)
    other_kids l n c i b s differ [] h = other_count l n c i b s differ ∙ h
    other_kids l n c i b s differ (x ∷ xs) h =
        subst (λ f. IsTree f × Is x (class_of f) (below_of f) × AreKids Is c xs (beside_of f))
        (sym (from_kid-other c 0 l n i b s (apart n c differ))) h

    this_kid : (l n : ℕ) (i : List ℤ) (b s : Forest) (x : W) (xs : List W) → Is x l b → AreKids Is n xs s
        → AreKids Is n (x ∷ xs) (tree l n i b s)
    this_kid l n i b s x xs is h =
        subst (λ f. IsTree f × Is x (class_of f) (below_of f) × AreKids Is n xs (beside_of f))
        (sym (from_kid-here n l n i b s (eq-eqb n n refl))) (tt, is, h)

    put : (n nodes more : ℕ) (x : W) (xs : List W) → n < g.child_count k → IsBareNode g (Is x) (g.child_interface k n) more
        → Half n nodes xs → Half n (more + nodes) (x ∷ xs)
    put n nodes more x xs known node h =
        record {
          forest = tree node.0 n (bare_inputs g node.0) node.1 h.forest;
          fit = (record { declared = known; interface = node.2 }, node.3, node.4, h.starts, h.fit);
          bare = (refl, node.5, h.bare);
          starts = (let z : n ≤ n = omega arith in z);
          earlier = λ c low.
              other_count node.0 n c (bare_inputs g node.0) node.1 h.forest (λ e. omega (arith, low, e)) ∙ h.earlier c low;
          here = this_kid node.0 n (bare_inputs g node.0) node.1 h.forest x xs node.6 h.here;
          later = λ c high low.
              other_kids node.0 n c (bare_inputs g node.0) node.1 h.forest (λ e. omega (arith, high, e)) (wants c)
              (h.later c high low);
          is = (let a = node.7 in let b = h.is in omega (arith, a, b));
        }

    put_all : (n nodes m : ℕ) (xs : List W) → AllByRecursion Known xs → n < g.child_count k → kids_size size_of (g.child_interface k n) xs ≡ Some m
        → Half n nodes [] → Half n (m + nodes) xs
    put_all n nodes m [] all known e h =
        let z : nodes ≡ m + nodes = (let s = some_same 0 m e in omega (arith, s)) in subst (λ x. Half n x []) z h
    put_all n nodes m (x ∷ xs) all known e h =
        let s = sum_of (size_of x (g.child_interface k n)) (kids_size size_of (g.child_interface k n) xs) m e in
        let z : s.left + (s.right + nodes) ≡ m + nodes = (let t = s.sum in omega (arith, t)) in
        subst (λ y. Half n y (x ∷ xs)) z
        (put n (s.right + nodes) s.left x xs known (sizes x all.0 (g.child_interface k n) s.left s.is_left)
        (put_all n nodes s.right xs all.1 known s.is_right h))

    -- the children from the n-th on are done
    abbrev Whole : ℕ → ℕ → Type 0
    Whole n nodes = (f : Forest) × FitBelow g k f × IsBare g f × StartsFrom n f × ((c : ℕ) → c < n → count_in c f ≡ 0)
        × ((c : ℕ) → n ≤ c → c < g.child_count k → AreKids Is c (wants c) f) × (size f ≡ nodes)

    open_child : (n nodes : ℕ) → Whole (suc n) nodes → Half n nodes []
    open_child n nodes w =
        record {
          forest = w.0;
          fit = w.1;
          bare = w.2;
          starts = starts_earlier g n (suc n) w.0 (omega arith) w.3;
          earlier = λ c low. w.4 c (omega (arith, low));
          here = w.4 n (omega arith);
          later = λ c high low. w.5 c (omega (arith, high)) low;
          is = w.6;
        }

    close_child : (n nodes : ℕ) → Half n nodes (wants n) → Whole n nodes
    close_child n nodes h = (
      h.forest,
      h.fit,
      h.bare,
      h.starts,
      h.earlier,
      (λ c le low. ⊎_elim (λ less. h.later c less low)
          (λ more. subst (λ x. AreKids Is x (wants x) h.forest) (let z : n ≡ c = omega (arith, le, more) in z) h.here)
          (cases_lt n c)),
      h.is,
    )

    build : (n m nodes : ℕ) → n ≤ g.child_count k → below_size g size_of wants k n ≡ Some m → Whole n nodes
        → Whole 0 (m + nodes)
    build zero m nodes le e w =
        let z : nodes ≡ m + nodes = (let s = some_same 0 m e in omega (arith, s)) in subst (Whole 0) z w
    build (suc n) m nodes le e w =
        let s = sum_of (kids_size size_of (g.child_interface k n) (wants n)) (below_size g size_of wants k n) m e in
        let z : s.right + (s.left + nodes) ≡ m + nodes = (let t = s.sum in omega (arith, t)) in
        subst (Whole 0) z
        (build n s.right (s.left + nodes) (omega (arith, le)) s.is_right
        (close_child n (s.left + nodes)
        (put_all n nodes s.left (wants n) (each n) (omega (arith, le)) s.is_left (open_child n nodes w))))

    no_kids : Whole (g.child_count k) 0
    no_kids = (none, tt, tt, tt, (λ c low. refl), (λ c le low. absurd (omega (arith, le, low))), refl)

    kids_count : (c : ℕ) (xs : List W) (f : Forest) → AreKids Is c xs f → count_in c f ≡ length xs
    kids_count c [] f h = h
    kids_count c (x ∷ xs) f h = count_first c f h.0 ∙ ap suc (kids_count c xs (beside_of (from_kid c 0 f)) h.2)

    pub wanted_built : k < g.class_count
        → ((c : ℕ) → c < g.child_count k → g.is_list k c ≡ false → length (wants c) ≡ 1)
        → AreSizes g (HasJust g Is wants k) (wanted_size g size_of wants k)
    wanted_built known alone i n e =
        (elim (g.interface k == i) as (λ t. (g.interface k == i ≡ t)
        → (if t then plus (Some 1) (below_size g size_of wants k (g.child_count k)) else None) ≡ Some n
        → IsBareNode g (HasJust g Is wants k) i n) [
          | true ↦ λ same e.
              let s = sum_of (Some 1) (below_size g size_of wants k (g.child_count k)) n e in
              let w = build (g.child_count k) s.right 0 (omega arith) s.is_right no_kids in
              let one = some_same 1 s.left s.is_left in let t = s.sum in let a = w.6 in (
                k,
                w.0,
                eqb-true (g.interface k) i same,
                bare_fits g k known w.0
                    (λ c low single. kids_count c (wants c) w.0 (w.5 c (omega arith) low) ∙ alone c low single),
                w.1,
                w.2,
                (refl, (λ c low. w.5 c (omega arith) low)),
                (let z : suc (size w.0) ≡ n = omega (arith, one, t, a) in z),
              )
          | false ↦ λ differ e. absurd (let z : ⊥ = grind arith in z)
        ]) refl e
