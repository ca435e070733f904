-- After as many rounds as interfaces, no tree that has the place has fewer nodes than the rounds give.
use Rattle.std.proofs.Common.{◌≡◌, ◌⊎◌, ℕ, zero, suc, ◌+◌, ◌<◌, ◌≤◌, ◌==◌, true, false, if◌then◌else◌, refl, sym, ◌∙◌, ap, subst, inl, inr, ⊎_elim, arith, List, [], ◌∷◌, length, Contains, Option, Some, eqb-true, eq-eqb}
use Rattle.std.proofs.lemmas.Bool.{cases_lt}
use Rattle.std.specs.Prelude.{ℤ}
use Rattle.ftl_model.specs.layout.Tree.{Forest, none, tree, IsTree, class_of, inputs_of, below_of, size, from_kid}
use Rattle.ftl_model.specs.layout.AttributeGrammar.{AttributeGrammar}
use Rattle.ftl_model.specs.layout.TreeOf.{FitsClass, FitsChild, FitBelow}
use Rattle.ftl_model.proofs.layout.Kids.{child-from_kid}
use Rattle.ftl_model.proofs.layout.Fits.{fit_from}
use Rattle.ftl_example.proofs.shows.FirstKid.{first_fits, first_stands}
use Rattle.ftl_model.specs.lists.Lists.{AreDistinct}
use Rattle.ftl_model.proofs.lists.Elements.{nothing_in, in_cases}
use Rattle.ftl_order.proofs.orders.Kids.{kid_exists}
use Rattle.ftl_example.specs.sizes.Least.{plus, lesser, HasInterfaces}
use Rattle.ftl_example.specs.sizes.Reach.{others, way_size, ways, best_way, reach, HoldsPlace, HasOrHolds, Anything, AreFewest}
use Rattle.ftl_example.proofs.sizes.Fewest.{AtMost, at_most_plus, lesser_left, lesser_right, few_distinct, listed, node_size, node_size-is, firsts, firsts_size}

-- the first kids of the children before the n-th but child d
abbrev firsts_but : Forest → ℕ → ℕ → ℕ
firsts_but f d zero = 0
firsts_but f d (suc n) = if n == d then firsts_but f d n else node_size (from_kid n 0 f) + firsts_but f d n

but_less : (f : Forest) (d n : ℕ) → firsts_but f d n ≤ firsts f n
but_less f d zero = omega arith
but_less f d (suc n) =
    let rest = but_less f d n in
    elim (n == d) as (λ t. (if t then firsts_but f d n else node_size (from_kid n 0 f) + firsts_but f d n)
    ≤ node_size (from_kid n 0 f) + firsts f n) [ true ↦ omega (arith, rest) | false ↦ omega (arith, rest) ]

-- a tree in child d plays no part
but_here : (k d : ℕ) (i : List ℤ) (b s : Forest) (n : ℕ) → firsts_but (tree k d i b s) d n ≡ firsts_but s d n
but_here k d i b s zero = refl
but_here k d i b s (suc n) =
    let rest = but_here k d i b s n in
    elim (n == d) as (λ t. (n == d ≡ t)
    → (if t then firsts_but (tree k d i b s) d n else node_size (if d == n then tree k d i b s else from_kid n 0 s) + firsts_but (tree k d i b s) d n)
    ≡ (if t then firsts_but s d n else node_size (from_kid n 0 s) + firsts_but s d n)) [
      | true ↦ λ e. rest
      | false ↦ λ e.
          elim (d == n) as (λ t. (d == n ≡ t)
          → node_size (if t then tree k d i b s else from_kid n 0 s) + firsts_but (tree k d i b s) d n ≡ node_size (from_kid n 0 s) + firsts_but s d n) [
            | true ↦ λ f. absurd
                (let q : (n == d) ≡ true = eq-eqb n d (sym (eqb-true d n f)) in let z : ⊥ = grind arith in z)
            | false ↦ λ f. omega (arith, rest)
          ] refl
    ] refl

but_same : (k c d : ℕ) (i : List ℤ) (b s : Forest) (n : ℕ) → n ≤ c → firsts_but (tree k c i b s) d n ≡ firsts_but s d n
but_same k c d i b s zero le = refl
but_same k c d i b s (suc n) le =
    let rest = but_same k c d i b s n (omega (arith, le)) in
    elim (n == d) as (λ t.
    (if t then firsts_but (tree k c i b s) d n else node_size (if c == n then tree k c i b s else from_kid n 0 s) + firsts_but (tree k c i b s) d n)
    ≡ (if t then firsts_but s d n else node_size (from_kid n 0 s) + firsts_but s d n)) [
      | true ↦ rest
      | false ↦
          elim (c == n) as (λ t. (c == n ≡ t)
          → node_size (if t then tree k c i b s else from_kid n 0 s) + firsts_but (tree k c i b s) d n ≡ node_size (from_kid n 0 s) + firsts_but s d n) [
            | true ↦ λ f. absurd (let same = eqb-true c n f in omega (arith, le, same))
            | false ↦ λ f. omega (arith, rest)
          ] refl
    ]

but_more : (k c d : ℕ) (i : List ℤ) (b s : Forest) (n : ℕ) → firsts_but (tree k c i b s) d n ≤ suc (size b) + firsts_but s d n
but_more k c d i b s zero = omega arith
but_more k c d i b s (suc n) =
    let rest = but_more k c d i b s n in
    elim (n == d) as (λ t.
    (if t then firsts_but (tree k c i b s) d n else node_size (if c == n then tree k c i b s else from_kid n 0 s) + firsts_but (tree k c i b s) d n)
    ≤ suc (size b) + (if t then firsts_but s d n else node_size (from_kid n 0 s) + firsts_but s d n)) [
      | true ↦ rest
      | false ↦
          elim (c == n) as (λ t. (c == n ≡ t)
          → node_size (if t then tree k c i b s else from_kid n 0 s) + firsts_but (tree k c i b s) d n ≤ suc (size b) + (node_size (from_kid n 0 s) + firsts_but s d n)) [
            | true ↦ λ f.
                let same = eqb-true c n f in
                let old = but_same k c d i b s n (omega (arith, same)) in
                omega (arith, old)
            | false ↦ λ f. omega (arith, rest)
          ] refl
    ]

module _ (g : AttributeGrammar) (P : ℕ → Forest → Type 0) where
  -- a kid that is or holds the place, and the room that it leaves
  record Way (above : ℕ) (f : Forest) : Type 0 where
    pub child : ℕ
    pub class : ℕ
    pub inputs : List ℤ
    pub below : Forest
    pub stands : FitsChild g above child class
    pub fits : FitsClass g class inputs below
    pub fit_below : FitBelow g class below
    pub holds : HasOrHolds P class below
    pub room : (n : ℕ) → suc (size below) + firsts_but f child n ≤ size f

  way_in : (above : ℕ) (f : Forest) → FitBelow g above f → HoldsPlace P f → Way above f
  way_in above none fit h = absurd h
  way_in above (tree k c i b s) fit h = ⊎_elim (λ p. here (inl p)) (λ h. ⊎_elim (λ p. here (inr p)) (λ later. past (way_in above s fit.4 later)) h) h
    where
      here : HasOrHolds P k b → Way above (tree k c i b s)
      here holds =
          record {
            child = c;
            class = k;
            inputs = i;
            below = b;
            stands = fit.0;
            fits = fit.1;
            fit_below = fit.2;
            holds = holds;
            room = λ n. let e = but_here k c i b s n in let l = but_less s c n in let m = firsts_size s n in omega (arith, e, l, m);
          }

      past : Way above s → Way above (tree k c i b s)
      past w =
          record {
            child = w.child;
            class = w.class;
            inputs = w.inputs;
            below = w.below;
            stands = w.stands;
            fits = w.fits;
            fit_below = w.fit_below;
            holds = w.holds;
            room = λ n. let m = but_more k c w.child i b s n in let r = w.room n in omega (arith, m, r);
          }

  module _ (size_of start : ℕ → Option ℕ) (fewest : AreFewest g Anything size_of) (first : AreFewest g P start)
      (count : ℕ) (interfaces : HasInterfaces g count) where
    others_most : (class d : ℕ) (inputs : List ℤ) (below : Forest) → FitsClass g class inputs below → FitBelow g class below
        → (n : ℕ) → n ≤ g.child_count class → AtMost (others g size_of class d n) (firsts_but below d n)
    others_most class d inputs below fits fit zero known = (0, refl, omega arith)
    others_most class d inputs below fits fit (suc n) known =
        let rest = others_most class d inputs below fits fit n (omega (arith, known)) in
        elim (n == d) as (λ t.
        AtMost (if t then others g size_of class d n
        else (if g.is_list class n then others g size_of class d n
        else plus (size_of (g.child_interface class n)) (others g size_of class d n)))
        (if t then firsts_but below d n else node_size (from_kid n 0 below) + firsts_but below d n)) [
          | true ↦ rest
          | false ↦
              elim (g.is_list class n) as (λ t. (g.is_list class n ≡ t)
              → AtMost (if t then others g size_of class d n
              else plus (size_of (g.child_interface class n)) (others g size_of class d n))
              (node_size (from_kid n 0 below) + firsts_but below d n)) [
                | true ↦ λ list. (rest.0, rest.1, (let l = rest.2 in omega (arith, l)))
                | false ↦ λ single.
                    let f = from_kid n 0 below in
                    let here : IsTree f = kid_exists n 0 below (let one = fits.singles n (omega (arith, known)) single in omega (arith, one)) in
                    let part = first_fits g class f here (fit_from g class below n 0 fit) in
                    let stands = first_stands g class f here (fit_from g class below n 0 fit) in
                    let e : g.interface (class_of f) ≡ g.child_interface class n =
                    stands.interface ∙ ap (g.child_interface class) (child-from_kid n 0 below here) in
                    at_most_plus (size_of (g.child_interface class n)) (others g size_of class d n) (node_size f) (firsts_but below d n)
                    (fewest (g.child_interface class n) (node_size f)
                    (class_of f, inputs_of f, below_of f, e, part.0, part.1, tt, sym (node_size-is f here)))
                    rest
              ] refl
        ]

    ways_most : (next : ℕ → Option ℕ) (class d n most : ℕ) → d < most → AtMost (way_size g size_of next class d) n
        → AtMost (ways g size_of next class most) n
    ways_most next class d n zero known h = absurd (omega (arith, known))
    ways_most next class d n (suc m) known h =
        ⊎_elim
        (λ l. lesser_left (ways g size_of next class m) (way_size g size_of next class m) n (ways_most next class d n m l h))
        (λ more. lesser_right (ways g size_of next class m) (way_size g size_of next class m) n
        (subst (λ c. AtMost (way_size g size_of next class c) n) (let z : d ≡ m = omega (arith, known, more) in z) h))
        (cases_lt d m)

    best_way_most : (next : ℕ → Option ℕ) (i class n most : ℕ) → class < most → g.interface class ≡ i
        → AtMost (ways g size_of next class (g.child_count class)) n → AtMost (best_way g size_of next i most) n
    best_way_most next i class n zero known same h = absurd (omega (arith, known))
    best_way_most next i class n (suc m) known same h =
        elim (g.interface m == i) as
        (λ t. (g.interface m == i ≡ t)
        → AtMost (if t then lesser (best_way g size_of next i m) (ways g size_of next m (g.child_count m)) else best_way g size_of next i m) n) [
          | true ↦ λ e.
              ⊎_elim (λ l. lesser_left (best_way g size_of next i m) (ways g size_of next m (g.child_count m)) n (best_way_most next i class n m l same h))
              (λ more. lesser_right (best_way g size_of next i m) (ways g size_of next m (g.child_count m)) n
              (subst (λ c. AtMost (ways g size_of next c (g.child_count c)) n) (let z : class ≡ m = omega (arith, known, more) in z) h))
              (cases_lt class m)
          | false ↦ λ e.
              ⊎_elim (λ l. best_way_most next i class n m l same h)
              (λ more. absurd
              (let z : class ≡ m = omega (arith, known, more) in
              let q : (g.interface m == i) ≡ true = eq-eqb (g.interface m) i (ap g.interface (sym z) ∙ same) in
              let z : ⊥ = grind arith in z))
              (cases_lt class m)
        ] refl

    record Smaller (xs : List ℕ) (n : ℕ) : Type 0 where
      pub class : ℕ
      pub inputs : List ℤ
      pub below : Forest
      pub fits : FitsClass g class inputs below
      pub fit_below : FitBelow g class below
      pub holds : HasOrHolds P class below
      pub among : Contains xs (g.interface class)
      pub small : suc (size below) ≤ n

    weaker : (xs ys : List ℕ) (m n : ℕ) (s : Smaller xs m) → Contains ys (g.interface s.class) → m ≤ n → Smaller ys n
    weaker xs ys m n s among le =
        record {
          class = s.class;
          inputs = s.inputs;
          below = s.below;
          fits = s.fits;
          fit_below = s.fit_below;
          holds = s.holds;
          among = among;
          small = (let l = s.small in omega (arith, l, le));
        }

    abbrev Found : ℕ → List ℕ → ℕ → ℕ → Type 0
    Found k xs i n = AtMost (reach g size_of start k i) n ⊎ Smaller xs n

    abbrev Finds : ℕ → Type 0
    Finds bound = (class : ℕ) (inputs : List ℤ) (below : Forest) → FitsClass g class inputs below → FitBelow g class below
        → HasOrHolds P class below → size below < bound → (k : ℕ) (xs : List ℕ) → AreDistinct xs
        → ((x : ℕ) → Contains xs x → x < count) → k + length xs ≡ count → Found k xs (g.interface class) (suc (size below))

    by_start : (k i n : ℕ) → AtMost (start i) n → AtMost (reach g size_of start k i) n
    by_start zero i n h = h
    by_start (suc k) i n h = lesser_left (start i) (best_way g size_of (reach g size_of start k) i g.class_count) n h

    again : (k : ℕ) (xs : List ℕ) (i j m n : ℕ) → i ≡ j → m ≤ n → Found k xs j m → Found k xs i n
    again k xs i j m n same le h =
        ⊎_elim
        (λ h. inl (h.0, subst (λ j. reach g size_of start k j ≡ Some h.0) (sym same) h.1, (let l = h.2 in omega (arith, l, le))))
        (λ s. inr (weaker xs xs m n s s.among le)) h

    below_found : (bound : ℕ) → Finds bound → (class : ℕ) (inputs : List ℤ) (below : Forest) → FitsClass g class inputs below
        → FitBelow g class below → HoldsPlace P below → size below ≤ bound → (k : ℕ) (xs : List ℕ) → AreDistinct xs
        → ((x : ℕ) → Contains xs x → x < count) → k + length xs ≡ count
        → (Contains xs (g.interface class) → ⊥) → Found k xs (g.interface class) (suc (size below))
    below_found bound finds class inputs below fits fit holds le k xs distinct within total new = go k total
      where
        w : Way class below
        w = way_in class below fit holds

        wider : (x : ℕ) → Contains (g.interface class ∷ xs) x → x < count
        wider x h = ⊎_elim (λ same. subst (λ y. y < count) same (interfaces class fits.known)) (λ old. within x old)
            (in_cases (g.interface class) x xs h)

        less : size w.below < size below
        less = let r = w.room 0 in omega (arith, r)

        go : (k : ℕ) → k + length xs ≡ count → Found k xs (g.interface class) (suc (size below))
        go zero total =
            absurd (let few = few_distinct (g.interface class ∷ xs) count (new, distinct) wider in omega (arith, few, total))
        go (suc k) total =
            ⊎_elim
            (λ h. inl
            (lesser_right (start (g.interface class)) (best_way g size_of (reach g size_of start k) (g.interface class) g.class_count) (suc (size below))
            (best_way_most (reach g size_of start k) (g.interface class) class (suc (size below)) g.class_count fits.known refl
            (ways_most (reach g size_of start k) class w.child (suc (size below)) (g.child_count class) w.stands.declared (whole h)))))
            (λ s.
            ⊎_elim
            (λ same. let l = s.small in let m = less in
            again (suc k) xs (g.interface class) (g.interface s.class) (suc (size s.below)) (suc (size below)) same (omega (arith, l, m))
            (finds s.class s.inputs s.below s.fits s.fit_below s.holds (omega (arith, l, m, le)) (suc k) xs distinct within total))
            (λ old. let m = less in inr (weaker (g.interface class ∷ xs) xs (suc (size w.below)) (suc (size below)) s old (omega (arith, m))))
            (in_cases (g.interface class) (g.interface s.class) xs s.among))
            (let m = less in finds w.class w.inputs w.below w.fits w.fit_below w.holds (omega (arith, m, le)) k (g.interface class ∷ xs) (new, distinct) wider
            (let z : k + suc (length xs) ≡ count = omega (arith, total) in z))
          where
            whole : AtMost (reach g size_of start k (g.interface w.class)) (suc (size w.below))
                → AtMost (way_size g size_of (reach g size_of start k) class w.child) (suc (size below))
            whole h =
                let o = others_most class w.child inputs below fits fit (g.child_count class) (omega arith) in
                let r = w.room (g.child_count class) in
                let both = at_most_plus (reach g size_of start k (g.child_interface class w.child)) (others g size_of class w.child (g.child_count class))
                (suc (size w.below)) (firsts_but below w.child (g.child_count class))
                (subst (λ i. AtMost (reach g size_of start k i) (suc (size w.below))) w.stands.interface h) o in
                let all = at_most_plus (Some 1) (plus (reach g size_of start k (g.child_interface class w.child)) (others g size_of class w.child (g.child_count class)))
                1 (suc (size w.below) + firsts_but below w.child (g.child_count class)) (1, refl, omega arith) both in
                (all.0, all.1, (let l = all.2 in omega (arith, l, r)))

    found : (bound : ℕ) → Finds bound
    found zero class inputs below fits fit holds small k xs distinct within total = absurd (omega (arith, small))
    found (suc bound) class inputs below fits fit holds small k xs distinct within total =
        ⊎_elim
        (λ among. inr
        (record { class = class; inputs = inputs; below = below; fits = fits; fit_below = fit; holds = holds; among = among; small = omega arith }))
        (λ new.
        ⊎_elim
        (λ p. inl (by_start k (g.interface class) (suc (size below))
        (first (g.interface class) (suc (size below)) (class, inputs, below, refl, fits, fit, p, refl))))
        (λ deeper. below_found bound (found bound) class inputs below fits fit deeper (omega (arith, small)) k xs distinct within total new)
        holds)
        (listed (g.interface class) xs)

    pub ways_fewest : AreFewest g (HasOrHolds P) (reach g size_of start count)
    ways_fewest i n node =
        let f = found (suc (size node.2)) node.0 node.1 node.2 node.4 node.5 node.6 (omega arith) count [] tt
        (λ x h. absurd (nothing_in x h)) (let z : count + 0 ≡ count = omega arith in z) in
        ⊎_elim
        (λ h. (h.0, subst (λ j. reach g size_of start count j ≡ Some h.0) node.3 h.1, (let l = h.2 in let e = node.7 in omega (arith, l, e))))
        (λ s. absurd (nothing_in (g.interface s.class) s.among)) f
