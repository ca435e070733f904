-- A size that the rounds give is that of a tree.
use Rattle.std.proofs.Common.{◌≡◌, ◌⊎◌, ℕ, zero, suc, ◌+◌, ◌<◌, ◌≤◌, ◌==◌, true, false, if◌then◌else◌, refl, ◌∙◌, ap, subst, inl, inr, ⊎_elim, arith, List, length, Option, None, Some, eqb-true, eq-eqb, nat_le}
use Rattle.std.proofs.lemmas.Int.{ints}
use Rattle.std.proofs.lemmas.Bool.{cases_lt}
use Rattle.std.specs.Prelude.{ℤ}
use Rattle.ftl_model.specs.layout.Tree.{Forest, none, tree, size, count_in}
use Rattle.ftl_model.specs.layout.AttributeGrammar.{AttributeGrammar, class_inputs}
use Rattle.ftl_model.specs.layout.TreeOf.{FitsClass, FitBelow, StartsFrom, AreInputs}
use Rattle.ftl_example.specs.shows.Bare.{zeros, bare_inputs, IsBare}
use Rattle.ftl_example.specs.sizes.Least.{plus, lesser, singles, class_size, best, least}

pub length-zeros : (n : ℕ) → length (zeros n) ≡ n
length-zeros zero = refl
length-zeros (suc n) = ap suc (length-zeros n)

pub inputs-zeros : (m n : ℕ) → AreInputs m (zeros n)
inputs-zeros m zero = tt
inputs-zeros m (suc n) = ((omega (arith, ints), omega (arith, ints)), inputs-zeros m n)

pub record Sum (x y : Option ℕ) (n : ℕ) : Type 0 where
  pub left : ℕ
  pub right : ℕ
  pub is_left : x ≡ Some left
  pub is_right : y ≡ Some right
  pub sum : left + right ≡ n

pub some_same : (a b : ℕ) → Some a ≡ Some b → a ≡ b
some_same a b e = grind arith

pub sum_of : (x y : Option ℕ) (n : ℕ) → plus x y ≡ Some n → Sum x y n
sum_of None y n e = absurd (let z : ⊥ = grind arith in z)
sum_of (Some a) None n e = absurd (let z : ⊥ = grind arith in z)
sum_of (Some a) (Some b) n e = record { left = a; right = b; is_left = refl; is_right = refl; sum = some_same (a + b) n e }

pub lesser_is : (x y : Option ℕ) (n : ℕ) → lesser x y ≡ Some n → (x ≡ Some n) ⊎ (y ≡ Some n)
lesser_is None y n e = inr e
lesser_is (Some a) None n e = inl e
lesser_is (Some a) (Some b) n e =
    (elim (nat_le a b) as (λ t. (if t then Some a else Some b) ≡ Some n → (Some a ≡ Some n) ⊎ (Some b ≡ Some n))
    [ true ↦ λ e. inl e | false ↦ λ e. inr e ]) e

module _ (g : AttributeGrammar) where
  -- a tree of the interface with so many nodes and all inputs 0
  pub record Node (i n : ℕ) : Type 0 where
    pub class : ℕ
    pub below : Forest
    pub interface : g.interface class ≡ i
    pub fits : FitsClass g class (bare_inputs g class) below
    pub fit_below : FitBelow g class below
    pub bare : IsBare g below
    pub nodes : suc (size below) ≡ n

  -- the class whose size is the best
  record Best (f : ℕ → Option ℕ) (i n : ℕ) (most : ℕ) : Type 0 where
    pub class : ℕ
    pub known : class < most
    pub interface : g.interface class ≡ i
    pub is : class_size g f class ≡ Some n

  one_more : (f : ℕ → Option ℕ) (i n most : ℕ) → Best f i n most → Best f i n (suc most)
  one_more f i n most b = record { class = b.class; known = (let k = b.known in omega (arith, k)); interface = b.interface; is = b.is }

  best_is : (f : ℕ → Option ℕ) (i n most : ℕ) → best g f i most ≡ Some n → Best f i n most
  best_is f i n zero e = absurd (let z : ⊥ = grind arith in z)
  best_is f i n (suc m) e =
      (elim (g.interface m == i) as
      (λ t. (g.interface m == i ≡ t) → (if t then lesser (best g f i m) (class_size g f m) else best g f i m) ≡ Some n
      → Best f i n (suc m)) [
        | true ↦ λ same e.
            ⊎_elim (λ old. one_more f i n m (best_is f i n m old))
            (λ new. record { class = m; known = omega arith; interface = eqb-true (g.interface m) i same; is = new })
            (lesser_is (best g f i m) (class_size g f m) n e)
        | false ↦ λ same e. one_more f i n m (best_is f i n m e)
      ]) refl e

  pub starts_earlier : (m n : ℕ) (f : Forest) → m ≤ n → StartsFrom n f → StartsFrom m f
  starts_earlier m n none le h = tt
  starts_earlier m n (tree k d i b s) le h = omega (arith, le, h)

  -- what stands below a node: the single children from the n-th on
  pub record Kids (class n nodes : ℕ) : Type 0 where
    pub forest : Forest
    pub fit : FitBelow g class forest
    pub bare : IsBare g forest
    pub starts : StartsFrom n forest
    pub earlier : (c : ℕ) → c < n → count_in c forest ≡ 0
    pub one : (c : ℕ) → n ≤ c → c < g.child_count class → g.is_list class c ≡ false → count_in c forest ≡ 1
    pub is : size forest ≡ nodes

  pub skip : (class n nodes : ℕ) → g.is_list class n ≡ true → Kids class (suc n) nodes → Kids class n nodes
  skip class n nodes list k =
      record {
        forest = k.forest;
        fit = k.fit;
        bare = k.bare;
        starts = starts_earlier n (suc n) k.forest (omega arith) k.starts;
        earlier = λ c low. k.earlier c (omega (arith, low));
        one = λ c le known single.
            ⊎_elim (λ l. k.one c l known single)
            (λ more. absurd
            (let same : c ≡ n = omega (arith, le, more) in
            let f : g.is_list class n ≡ false = subst (λ c. g.is_list class c ≡ false) same single in
            let z : ⊥ = grind arith in z))
            (cases_lt n c);
        is = k.is;
      }

  other_count : (k n c : ℕ) (i : List ℤ) (b s : Forest) → (n ≡ c → ⊥) → count_in c (tree k n i b s) ≡ count_in c s
  other_count k n c i b s differ =
      elim (n == c) as (λ t. (n == c ≡ t) → (if t then suc (count_in c s) else count_in c s) ≡ count_in c s)
      [ true ↦ λ e. absurd (differ (eqb-true n c e)) | false ↦ λ e. refl ] refl

  pub put : (class n nodes more : ℕ) → n < g.child_count class → Node (g.child_interface class n) more
      → Kids class (suc n) nodes → Kids class n (more + nodes)
  put class n nodes more known node k =
      record {
        forest = tree node.class n (bare_inputs g node.class) node.below k.forest;
        fit = (
          record { declared = known; interface = node.interface },
          node.fits,
          node.fit_below,
          starts_earlier n (suc n) k.forest (omega arith) k.starts,
          k.fit,
        );
        bare = (refl, node.bare, k.bare);
        starts = (let z : n ≤ n = omega arith in z);
        earlier = λ c low.
            other_count node.class n c (bare_inputs g node.class) node.below k.forest (λ e. omega (arith, low, e))
            ∙ k.earlier c (omega (arith, low));
        one = λ c le below single.
            ⊎_elim
            (λ l. other_count node.class n c (bare_inputs g node.class) node.below k.forest (λ e. omega (arith, l, e)) ∙ k.one c l below single)
            (λ more. here (let z : n ≡ c = omega (arith, le, more) in z))
            (cases_lt n c);
        is = (let a = node.nodes in let b = k.is in omega (arith, a, b));
      }
    where
      here : {c : ℕ} → n ≡ c → count_in c (tree node.class n (bare_inputs g node.class) node.below k.forest) ≡ 1
      here {c} e = subst (λ c. count_in c (tree node.class n (bare_inputs g node.class) node.below k.forest) ≡ 1) e
          (ap (λ t. if t then suc (count_in n k.forest) else count_in n k.forest) (eq-eqb n n refl)
          ∙ ap suc (k.earlier n (omega arith)))

  pub put-forest : (class n nodes more : ℕ) (known : n < g.child_count class) (node : Node (g.child_interface class n) more)
      (k : Kids class (suc n) nodes)
      → tree node.class n (bare_inputs g node.class) node.below k.forest ≡ (put class n nodes more known node k).forest
  unfolding put
  put-forest class n nodes more known node k = refl

  pub skip-forest : (class n nodes : ℕ) (list : g.is_list class n ≡ true) (k : Kids class (suc n) nodes)
      → k.forest ≡ (skip class n nodes list k).forest
  unfolding skip
  skip-forest class n nodes list k = refl

  build : (f : ℕ → Option ℕ) → ((i n : ℕ) → f i ≡ Some n → Node i n) → (class n m nodes : ℕ) → n ≤ g.child_count class
      → singles g f class n ≡ Some m → Kids class n nodes → Kids class 0 (m + nodes)
  build f trees class zero m nodes le e k =
      let z : nodes ≡ m + nodes = (let s = some_same 0 m e in omega (arith, s)) in subst (Kids class 0) z k
  build f trees class (suc n) m nodes le e k =
      (elim (g.is_list class n) as
      (λ t. (g.is_list class n ≡ t)
      → (if t then singles g f class n else plus (f (g.child_interface class n)) (singles g f class n)) ≡ Some m
      → Kids class 0 (m + nodes)) [
        | true ↦ λ list e. build f trees class n m nodes (omega (arith, le)) e (skip class n nodes list k)
        | false ↦ λ single e.
            let s = sum_of (f (g.child_interface class n)) (singles g f class n) m e in
            let all = build f trees class n s.right (s.left + nodes) (omega (arith, le)) s.is_right
            (put class n nodes s.left (omega (arith, le)) (trees (g.child_interface class n) s.left s.is_left) k) in
            let z : s.right + (s.left + nodes) ≡ m + nodes = (let t = s.sum in omega (arith, t)) in
            subst (Kids class 0) z all
      ]) refl e

  pub no_kids : (class : ℕ) → Kids class (g.child_count class) 0
  no_kids class =
      record {
        forest = none;
        fit = tt;
        bare = tt;
        starts = tt;
        earlier = λ c low. refl;
        one = λ c le low single. absurd (omega (arith, le, low));
        is = refl;
      }

  pub bare_fits : (class : ℕ) → class < g.class_count → (below : Forest)
      → ((c : ℕ) → c < g.child_count class → g.is_list class c ≡ false → count_in c below ≡ 1)
      → FitsClass g class (bare_inputs g class) below
  bare_fits class known below singles =
      record {
        known = known;
        count = length-zeros (length (class_inputs g class));
        numbers = inputs-zeros g.greatest (length (class_inputs g class));
        singles = singles;
      }

  -- each size is that of a tree
  pub built : (k i n : ℕ) → least g k i ≡ Some n → Node i n
  built zero i n e = absurd (let z : ⊥ = grind arith in z)
  built (suc k) i n e =
      let b = best_is (least g k) i n g.class_count e in
      let s = sum_of (Some 1) (singles g (least g k) b.class (g.child_count b.class)) n b.is in
      let kids = build (least g k) (built k) b.class (g.child_count b.class) s.right 0 (omega arith) s.is_right (no_kids b.class) in
      record {
        class = b.class;
        below = kids.forest;
        interface = b.interface;
        fits = bare_fits b.class b.known kids.forest (λ c known single. kids.one c (omega arith) known single);
        fit_below = kids.fit;
        bare = kids.bare;
        nodes = (let one = some_same 1 s.left s.is_left in let t = s.sum in let a = kids.is in omega (arith, one, t, a));
      }
