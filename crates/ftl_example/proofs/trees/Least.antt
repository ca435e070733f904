-- The last table of least sizes, and the trees that are built by it.
use Rattle.std.proofs.Common.{◌≡◌, ℕ, zero, suc, ◌+◌, ◌<◌, ◌==◌, ◌&&◌, true, false, if◌then◌else◌, refl, sym, ◌∙◌, ap, ap₂, subst, ⊎_elim, arith, [], ◌∷◌, length, Option, None, Some, eqb-true, eq-eqb}
use Rattle.std.specs.List.{AllByRecursion}
use Rattle.ftl_model.specs.layout.AttributeGrammar.{AttributeGrammar}
use Rattle.ftl_model.specs.layout.Tree.{Forest, size}
use Rattle.ftl_order.specs.orders.Lawful.{IsLawful}
use Rattle.ftl_example.specs.sizes.Least.{HasInterfaces, IsLeastSize, best, class_size, least, lesser, plus, singles}
use Rattle.ftl_example.specs.sizes.Place.{singles_alone}
use Rattle.ftl_example.specs.sizes.Wants.{below_size, kids_size}
use Rattle.ftl_example.proofs.sizes.Built.{lesser_is}
use Rattle.ftl_example.proofs.sizes.LeastSize.{rounds_give_least}
use Rattle.ftl_example.specs.trees.Grown.{GrowsLeastTrees, grown, is_size, least_choices, least_class}
use Rattle.ftl_example.proofs.trees.Grown.{Good, Unfolds, grown_good}

module _ (g : AttributeGrammar) (law : IsLawful g) where
  known : HasInterfaces g g.interface_count
  known = law.interfaces_known

  more : HasInterfaces g (suc g.interface_count)
  more k low = let l = law.interfaces_known k low in omega (arith, l)

  -- one round more changes no size
  pub stable : (i n : ℕ) → least g g.interface_count i ≡ Some n → least g (suc g.interface_count) i ≡ Some n
  stable i n e = go (least g (suc g.interface_count) i) refl
    where
      now : IsLeastSize g i n
      now = (rounds_give_least g g.interface_count i known).0 n e

      go : (o : Option ℕ) → least g (suc g.interface_count) i ≡ o → least g (suc g.interface_count) i ≡ Some n
      go None f =
          absurd ((rounds_give_least g (suc g.interface_count) i more).1.0 f now.0.0 now.0.1)
      go (Some m) f =
          let next = (rounds_give_least g (suc g.interface_count) i more).0 m f in
          let a = now.1 next.0.0 next.0.1 in
          let b = next.1 now.0.0 now.0.1 in
          let c = now.0.2 in
          let d = next.0.2 in
          f ∙ ap Some (let z : m ≡ n = omega (arith, a, b, c, d) in z)

  pub same_size : (x y : Option ℕ) → x ≡ y → is_size x y ≡ true
  same_size None y e = subst (λ y. is_size None y ≡ true) e refl
  same_size (Some m) y e = subst (λ y. is_size (Some m) y ≡ true) e (eq-eqb m m refl)

  pub size_same : (x y : Option ℕ) → is_size x y ≡ true → x ≡ y
  size_same None None e = refl
  size_same None (Some n) e = absurd (let z : ⊥ = grind arith in z)
  size_same (Some m) None e = absurd (let z : ⊥ = grind arith in z)
  size_same (Some m) (Some n) e = ap Some (eqb-true m n e)

  abbrev pub last : ℕ → Option ℕ
  last = least g g.interface_count

  abbrev pub Is : ℕ → ℕ → ℕ → ℕ → Type 0
  Is i n most k = (k < most) × (g.interface k ≡ i) × (class_size g (least g g.interface_count) k ≡ Some n)

  -- where the best of the first classes is the size, one of them is chosen
  pub chosen : (i n : ℕ) → least g g.interface_count i ≡ Some n → (most : ℕ)
      → best g (least g g.interface_count) i most ≡ Some n
      → Is i n most (least_class g (least g g.interface_count) i most)
  chosen i n size_is zero e = absurd (let z : ⊥ = grind arith in z)
  chosen i n size_is (suc m) e =
      (elim (g.interface m == i) as
      (λ t. (g.interface m == i ≡ t)
      → (if t then lesser (best g last i m) (class_size g last m) else best g last i m) ≡ Some n
      → Is i n (suc m) (if t && is_size (class_size g last m) (last i) then m else least_class g last i m)) [
        | true ↦ λ same e.
            elim (is_size (class_size g last m) (last i)) as
            (λ t. (is_size (class_size g last m) (last i) ≡ t)
            → Is i n (suc m) (if t then m else least_class g last i m)) [
              | true ↦ λ f.
                  (omega arith, eqb-true (g.interface m) i same, size_same (class_size g last m) (last i) f ∙ size_is)
              | false ↦ λ f.
                  wider (chosen i n size_is m
                  (⊎_elim (λ old. old)
                  (λ new. absurd
                  (let h = same_size (class_size g last m) (last i) (new ∙ sym size_is) in
                  let z : ⊥ = grind (arith, f, h) in z))
                  (lesser_is (best g last i m) (class_size g last m) n e)))
            ] refl
        | false ↦ λ differ e. wider (chosen i n size_is m e)
      ]) refl e
    where
      wider : {k : ℕ} → Is i n m k → Is i n (suc m) k
      wider {k} h = (let l = h.0 in let z : k < suc m = omega (arith, l) in z, h.1, h.2)

  -- sums over wanted kids, where these are a tree in each single child
  singles_are : (k n : ℕ) → below_size g (λ (x : Unit {0}). last) (singles_alone g tt k) k n ≡ singles g last k n
  singles_are k zero = refl
  singles_are k (suc n) =
      elim (g.is_list k n) as
      (λ t. plus (kids_size (λ (x : Unit {0}). last) (g.child_interface k n) (if t then [] else tt ∷ []))
      (below_size g (λ (x : Unit {0}). last) (singles_alone g tt k) k n)
      ≡ (if t then singles g last k n else plus (last (g.child_interface k n)) (singles g last k n))) [
        | true ↦ nothing (below_size g (λ (x : Unit {0}). last) (singles_alone g tt k) k n) ∙ singles_are k n
        | false ↦ ap₂ plus (alone (last (g.child_interface k n))) (singles_are k n)
      ]
    where
      nothing : (x : Option ℕ) → plus (Some 0) x ≡ x
      nothing None = refl
      nothing (Some b) = ap Some (let z : 0 + b ≡ b = omega arith in z)

      alone : (x : Option ℕ) → plus x (Some 0) ≡ x
      alone None = refl
      alone (Some a) = ap Some (let z : a + 0 ≡ a = omega arith in z)

  anything : Unit {0} → ℕ → Forest → Type 0
  anything x class below = Unit {0}

  unfolds : (w : Unit {0}) (i n : ℕ) → last i ≡ Some n
      → Unfolds g (Unit {0}) (λ x class below. Unit {0}) (λ x. last) (λ x. Unit {0}) (least_choices g last) w i n
  unfolds w i n e =
      let c = chosen i n e g.class_count (stable i n e) in
      let k = least_class g last i g.class_count in
      record {
        interface = c.1;
        known = c.0;
        sum = ap (plus (Some 1)) (singles_are k (g.child_count k)) ∙ c.2;
        alone = λ d low single. ap (λ b. length (if b then [] else tt ∷ [])) single;
        closes = λ f kids. tt;
        each = λ d.
            elim (g.is_list k d) as (λ t. AllByRecursion (λ (x : Unit {0}). Unit {0}) (if t then [] else tt ∷ []))
            [ true ↦ tt | false ↦ (tt, tt) ];
      }

  pub grows_least : (i n : ℕ) → last i ≡ Some n
      → Good g (Unit {0}) (λ x class below. Unit {0}) (λ x. last) (λ x. Unit {0}) tt i n (grown g (least_choices g last) n tt i)
  grows_least i n e =
      grown_good g (Unit {0}) (λ x class below. Unit {0}) (λ x. last) (λ x. Unit {0}) (least_choices g last)
      (λ w i n h e. unfolds w i n e) n tt i n tt e (omega arith)

pub grows_least_trees : GrowsLeastTrees
grows_least_trees g i n law e =
    let b = grows_least g law i n e in
    let nodes = b.nodes in
    let node = grown g (least_choices g (least g g.interface_count)) n tt i in
    ((b.interface, b.fits, b.fit_below, refl, refl), (refl, b.bare, tt), (let z : suc (size node.1 + 0) ≡ n = omega (arith, nodes) in z))
