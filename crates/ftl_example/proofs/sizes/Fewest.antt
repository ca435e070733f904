-- After as many rounds as interfaces, no tree has fewer nodes than the rounds give.
use Rattle.std.proofs.Common.{◌≡◌, ◌⊎◌, ℕ, zero, suc, ◌+◌, ◌<◌, ◌≤◌, ◌==◌, true, false, if◌then◌else◌, refl, sym, ◌∙◌, ap, subst, inl, inr, ⊎_elim, arith, List, [], ◌∷◌, length, get_or, Contains, Option, None, Some, eqb-true, eq-eqb, nat_le, leb-true, leb-false}
use Rattle.std.proofs.lemmas.Bool.{cases_lt}
use Rattle.std.proofs.lemmas.List.{get_or_default}
use Rattle.std.proofs.lemmas.Map.Made.{IsDistinct-from_AllPairs}
use Rattle.std.proofs.lemmas.Map.Views.{Contains-from_any}
use Rattle.std.proofs.lemmas.Map.Steps.{length-le_from_distinct_below}
use Rattle.std.specs.Prelude.{ℤ}
use Rattle.ftl_model.specs.layout.Tree.{Forest, none, tree, IsTree, class_of, inputs_of, below_of, size, from_kid}
use Rattle.ftl_model.specs.layout.AttributeGrammar.{AttributeGrammar}
use Rattle.ftl_model.specs.layout.TreeOf.{FitsClass, FitBelow}
use Rattle.ftl_model.proofs.layout.Kids.{child-from_kid}
use Rattle.ftl_model.proofs.layout.Fits.{fit_from}
use Rattle.ftl_example.proofs.shows.FirstKid.{first_fits, first_stands}
use Rattle.ftl_model.specs.lists.Lists.{AreDistinct}
use Rattle.ftl_model.proofs.lists.Elements.{nothing_in, here_in, later_in, in_cases}
use Rattle.ftl_order.proofs.orders.Kids.{kid_exists, kid_size, below_size}
use Rattle.ftl_example.specs.sizes.Least.{plus, lesser, singles, class_size, best, least, HasInterfaces}
use Rattle.ftl_order.proofs.orders.Precedence.{Decided}

apart : (xs : List ℕ) → AreDistinct xs → (i j d : ℕ) → i < j → j < length xs → get_or xs i d ≡ get_or xs j d → ⊥
apart [] h i j d less below e = omega (arith, below)
apart (x ∷ xs) h i zero d less below e = omega (arith, less)
apart (x ∷ xs) h zero (suc j) d less below e =
    let b : j < length xs = omega (arith, below) in h.0 (j, b, get_or_default xs j x d b ∙ sym e)
apart (x ∷ xs) h (suc i) (suc j) d less below e = apart xs h.1 i j d (omega (arith, less)) (omega (arith, below)) e

-- numbers that differ and are below a number are no more than it
pub few_distinct : (xs : List ℕ) (n : ℕ) → AreDistinct xs → ((x : ℕ) → Contains xs x → x < n) → length xs ≤ n
few_distinct xs n distinct within =
    length-le_from_distinct_below xs n
    (IsDistinct-from_AllPairs (λ a b. (eqb-true a b, eq-eqb a b)) xs
    (λ i j d less below e. apart xs distinct i j d less below e))
    (λ q h. within q (Contains-from_any eqb-true q xs h))

pub listed : (x : ℕ) (xs : List ℕ) → Decided (Contains xs x)
listed x [] = inr (nothing_in x)
listed x (y ∷ ys) =
    elim (y == x) as (λ b. (y == x ≡ b) → Decided (Contains (y ∷ ys) x)) [
      | true ↦ λ e. inl (subst (Contains (y ∷ ys)) (eqb-true y x e) (here_in y ys))
      | false ↦ λ e.
          ⊎_elim (λ h. inl (later_in y x ys h))
          (λ no-x. inr (λ h.
          ⊎_elim (λ same. let f : (y == x) ≡ true = eq-eqb y x same in let z : ⊥ = grind arith in z) no-x (in_cases y x ys h)))
          (listed x ys)
    ] refl

-- a size that is there and at most n
abbrev pub AtMost : Option ℕ → ℕ → Type 0
AtMost o n = (m : ℕ) × (o ≡ Some m) × (m ≤ n)

pub at_most_plus : (x y : Option ℕ) (a b : ℕ) → AtMost x a → AtMost y b → AtMost (plus x y) (a + b)
at_most_plus x y a b (m, e, l) (n, f, k) =
    (m + n, subst (λ z. plus z y ≡ Some (m + n)) (sym e) (subst (λ z. plus (Some m) z ≡ Some (m + n)) (sym f) refl), omega (arith, l, k))

pub lesser_left : (x y : Option ℕ) (n : ℕ) → AtMost x n → AtMost (lesser x y) n
lesser_left None y n (m, e, l) = absurd (let z : ⊥ = grind arith in z)
lesser_left (Some a) None n h = h
lesser_left (Some a) (Some b) n h =
    elim (nat_le a b) as (λ t. (nat_le a b ≡ t) → AtMost (if t then Some a else Some b) n) [
      | true ↦ λ e. h
      | false ↦ λ e.
          let f : b < a = leb-false a b e in
          let k : a ≤ n = some_at_most a n h in
          (b, refl, omega (arith, f, k))
    ] refl
  where
    some_at_most : (a n : ℕ) → AtMost (Some a) n → a ≤ n
    some_at_most a n (m, e, l) = let same : a ≡ m = some_is a m e in omega (arith, same, l)
      where
        some_is : (a b : ℕ) → Some a ≡ Some b → a ≡ b
        some_is a b e = grind arith

pub lesser_right : (x y : Option ℕ) (n : ℕ) → AtMost y n → AtMost (lesser x y) n
lesser_right None y n h = h
lesser_right (Some a) None n (m, e, l) = absurd (let z : ⊥ = grind arith in z)
lesser_right (Some a) (Some b) n h =
    elim (nat_le a b) as (λ t. (nat_le a b ≡ t) → AtMost (if t then Some a else Some b) n) [
      | true ↦ λ e.
          let f : a ≤ b = leb-true a b e in
          let k : b ≤ n = some_at_most b n h in
          (a, refl, omega (arith, f, k))
      | false ↦ λ e. h
    ] refl
  where
    some_at_most : (a n : ℕ) → AtMost (Some a) n → a ≤ n
    some_at_most a n (m, e, l) = let same : a ≡ m = some_is a m e in omega (arith, same, l)
      where
        some_is : (a b : ℕ) → Some a ≡ Some b → a ≡ b
        some_is a b e = grind arith

-- the first kids of the children before the n-th, with all below them
abbrev pub node_size : Forest → ℕ
node_size none = 0
node_size (tree k d i b s) = suc (size b)

abbrev pub firsts : Forest → ℕ → ℕ
firsts f zero = 0
firsts f (suc n) = node_size (from_kid n 0 f) + firsts f n

pub no_firsts : (n : ℕ) → firsts none n ≡ 0
no_firsts zero = refl
no_firsts (suc n) = let e = no_firsts n in omega (arith, e)

pub same_firsts : (k d : ℕ) (i : List ℤ) (b s : Forest) (n : ℕ) → n ≤ d → firsts (tree k d i b s) n ≡ firsts s n
same_firsts k d i b s zero le = refl
same_firsts k d i b s (suc n) le =
    let rest = same_firsts k d i b s n (omega (arith, le)) in
    elim (d == n) as (λ t. (d == n ≡ t)
    → node_size (if t then tree k d i b s else from_kid n 0 s) + firsts (tree k d i b s) n ≡ node_size (from_kid n 0 s) + firsts s n) [
      | true ↦ λ e. absurd (let same = eqb-true d n e in omega (arith, le, same))
      | false ↦ λ e. omega (arith, rest)
    ] refl

pub more_firsts : (k d : ℕ) (i : List ℤ) (b s : Forest) (n : ℕ) → firsts (tree k d i b s) n ≤ suc (size b) + firsts s n
more_firsts k d i b s zero = omega arith
more_firsts k d i b s (suc n) =
    let rest = more_firsts k d i b s n in
    elim (d == n) as (λ t. (d == n ≡ t)
    → node_size (if t then tree k d i b s else from_kid n 0 s) + firsts (tree k d i b s) n
    ≤ suc (size b) + (node_size (from_kid n 0 s) + firsts s n)) [
      | true ↦ λ e.
          let same = eqb-true d n e in
          let old = same_firsts k d i b s n (omega (arith, same)) in
          omega (arith, old)
      | false ↦ λ e. omega (arith, rest)
    ] refl

pub firsts_size : (f : Forest) (n : ℕ) → firsts f n ≤ size f
firsts_size none n = let e = no_firsts n in omega (arith, e)
firsts_size (tree k d i b s) n =
    let a = more_firsts k d i b s n in let r = firsts_size s n in omega (arith, a, r)

pub node_size-is : (f : Forest) → IsTree f → node_size f ≡ suc (size (below_of f))
node_size-is none h = absurd h
node_size-is (tree k d i b s) h = refl

module _ (g : AttributeGrammar) (count : ℕ) (interfaces : HasInterfaces g count) where
  best_most : (f : ℕ → Option ℕ) (i class n most : ℕ) → class < most → g.interface class ≡ i
      → AtMost (class_size g f class) n → AtMost (best g f i most) n
  best_most f i class n zero known same h = absurd (omega (arith, known))
  best_most f i class n (suc m) known same h =
      elim (g.interface m == i) as
      (λ t. (g.interface m == i ≡ t) → AtMost (if t then lesser (best g f i m) (class_size g f m) else best g f i m) n) [
        | true ↦ λ e.
            ⊎_elim (λ l. lesser_left (best g f i m) (class_size g f m) n (best_most f i class n m l same h))
            (λ more. lesser_right (best g f i m) (class_size g f m) n
            (subst (λ c. AtMost (class_size g f c) n) (let z : class ≡ m = omega (arith, known, more) in z) h))
            (cases_lt class m)
        | false ↦ λ e.
            ⊎_elim (λ l. best_most f i class n m l same h)
            (λ more. absurd
            (let z : class ≡ m = omega (arith, known, more) in
            let q : (g.interface m == i) ≡ true = eq-eqb (g.interface m) i (ap g.interface (sym z) ∙ same) in
            let z : ⊥ = grind arith in z))
            (cases_lt class m)
      ] refl

  -- a node whose interface is one of these, with at most so many nodes
  record Smaller (xs : List ℕ) (n : ℕ) : Type 0 where
    pub class : ℕ
    pub inputs : List ℤ
    pub below : Forest
    pub fits : FitsClass g class inputs below
    pub fit_below : FitBelow g class below
    pub among : Contains xs (g.interface class)
    pub small : suc (size below) ≤ n

  weaker : (xs : List ℕ) (m n : ℕ) → m ≤ n → Smaller xs m → Smaller xs n
  weaker xs m n le s =
      record {
        class = s.class;
        inputs = s.inputs;
        below = s.below;
        fits = s.fits;
        fit_below = s.fit_below;
        among = s.among;
        small = (let l = s.small in omega (arith, l, le));
      }

  -- the rounds left after these interfaces give at most the size; or a part is of one of them
  abbrev Found : ℕ → List ℕ → ℕ → ℕ → Type 0
  Found k xs i n = AtMost (least g k i) n ⊎ Smaller xs n

  abbrev Finds : ℕ → Type 0
  Finds bound = (class : ℕ) (inputs : List ℤ) (below : Forest) → FitsClass g class inputs below → FitBelow g class below
      → size below < bound → (k : ℕ) (xs : List ℕ) → AreDistinct xs → ((x : ℕ) → Contains xs x → x < count)
      → k + length xs ≡ count → Found k xs (g.interface class) (suc (size below))

  -- the single children before the n-th
  kids_found : (bound : ℕ) → Finds bound → (class : ℕ) (inputs : List ℤ) (below : Forest) → FitsClass g class inputs below
      → FitBelow g class below → size below ≤ bound → (k : ℕ) (xs : List ℕ) → AreDistinct xs
      → ((x : ℕ) → Contains xs x → x < count) → k + length xs ≡ count → (n : ℕ) → n ≤ g.child_count class
      → AtMost (singles g (least g k) class n) (firsts below n) ⊎ Smaller xs (size below)
  kids_found bound finds class inputs below fits fit le k xs distinct within total zero known = inl (0, refl, omega arith)
  kids_found bound finds class inputs below fits fit le k xs distinct within total (suc n) known =
      ⊎_elim
      (λ rest.
      elim (g.is_list class n) as
      (λ t. (g.is_list class n ≡ t)
      → AtMost (if t then singles g (least g k) class n
      else plus (least g k (g.child_interface class n)) (singles g (least g k) class n)) (firsts below (suc n))
      ⊎ Smaller xs (size below)) [
        | true ↦ λ list. inl (rest.0, rest.1, (let l = rest.2 in omega (arith, l)))
        | false ↦ λ single.
            let f = from_kid n 0 below in
            let here : IsTree f = kid_exists n 0 below (let one = fits.singles n (omega (arith, known)) single in omega (arith, one)) in
            let part = first_fits g class f here (fit_from g class below n 0 fit) in
            let stands = first_stands g class f here (fit_from g class below n 0 fit) in
            let smaller = below_size f here in
            let whole = kid_size n 0 below in
            let nodes = node_size-is f here in
            let e : g.interface (class_of f) ≡ g.child_interface class n =
            stands.interface ∙ ap (g.child_interface class) (child-from_kid n 0 below here) in
            ⊎_elim
            (λ h. inl
            (at_most_plus (least g k (g.child_interface class n)) (singles g (least g k) class n) (node_size f) (firsts below n)
            (subst (λ i. AtMost (least g k i) (node_size f)) e
            (subst (λ m. AtMost (least g k (g.interface (class_of f))) m) (sym nodes) h))
            rest))
            (λ s. inr (weaker xs (suc (size (below_of f))) (size below) (omega (arith, smaller, whole)) s))
            (finds (class_of f) (inputs_of f) (below_of f) part.0 part.1 (omega (arith, smaller, whole, le)) k xs distinct within total)
      ] refl)
      (λ s. inr s)
      (kids_found bound finds class inputs below fits fit le k xs distinct within total n (omega (arith, known)))

  class_found : (bound : ℕ) → Finds bound → (class : ℕ) (inputs : List ℤ) (below : Forest) → FitsClass g class inputs below
      → FitBelow g class below → size below ≤ bound → (k : ℕ) (xs : List ℕ) → AreDistinct xs
      → ((x : ℕ) → Contains xs x → x < count) → k + length xs ≡ count
      → (Contains xs (g.interface class) → ⊥) → Found k xs (g.interface class) (suc (size below))
  class_found bound finds class inputs below fits fit le k xs distinct within total new =
      go k total
    where
      i : ℕ
      i = g.interface class

      wider : (x : ℕ) → Contains (g.interface class ∷ xs) x → x < count
      wider x h = ⊎_elim (λ same. subst (λ y. y < count) same (interfaces class fits.known)) (λ old. within x old)
          (in_cases (g.interface class) x xs h)

      go : (k : ℕ) → k + length xs ≡ count → Found k xs (g.interface class) (suc (size below))
      go zero total =
          absurd (let few = few_distinct (g.interface class ∷ xs) count (new, distinct) wider in omega (arith, few, total))
      go (suc k) total =
          ⊎_elim
          (λ h. inl
          (best_most (least g k) (g.interface class) class (suc (size below)) g.class_count fits.known refl
          (subst (AtMost (class_size g (least g k) class)) (let z : 1 + size below ≡ suc (size below) = omega arith in z)
          (at_most_plus (Some 1) (singles g (least g k) class (g.child_count class)) 1 (size below) (1, refl, omega arith)
          (h.0, h.1, (let l = h.2 in let m = firsts_size below (g.child_count class) in omega (arith, l, m)))))))
          (λ s.
          ⊎_elim
          (λ same.
          let l = s.small in
          again s same
          (finds s.class s.inputs s.below s.fits s.fit_below (omega (arith, l, le)) (suc k) xs distinct within total))
          (λ old. inr
          (weaker xs (size below) (suc (size below)) (omega arith)
          (record { class = s.class; inputs = s.inputs; below = s.below; fits = s.fits; fit_below = s.fit_below; among = old; small = s.small })))
          (in_cases (g.interface class) (g.interface s.class) xs s.among))
          (kids_found bound finds class inputs below fits fit le k (g.interface class ∷ xs) (new, distinct) wider
          (let z : k + suc (length xs) ≡ count = omega (arith, total) in z) (g.child_count class) (omega arith))
        where
          again : (s : Smaller (g.interface class ∷ xs) (size below)) → g.interface class ≡ g.interface s.class
              → Found (suc k) xs (g.interface s.class) (suc (size s.below))
              → Found (suc k) xs (g.interface class) (suc (size below))
          again s same h =
              let l = s.small in
              ⊎_elim
              (λ h. inl (h.0, subst (λ j. least g (suc k) j ≡ Some h.0) (sym same) h.1, (let m = h.2 in omega (arith, m, l))))
              (λ t. inr (weaker xs (suc (size s.below)) (suc (size below)) (omega (arith, l)) t)) h

  found : (bound : ℕ) → Finds bound
  found zero class inputs below fits fit small k xs distinct within total = absurd (omega (arith, small))
  found (suc bound) class inputs below fits fit small k xs distinct within total =
      ⊎_elim
      (λ among. inr
      (record { class = class; inputs = inputs; below = below; fits = fits; fit_below = fit; among = among; small = omega arith }))
      (λ new. class_found bound (found bound) class inputs below fits fit (omega (arith, small)) k xs distinct within total new)
      (listed (g.interface class) xs)

  pub fewest : (class : ℕ) (inputs : List ℤ) (below : Forest) → FitsClass g class inputs below → FitBelow g class below
      → (m : ℕ) × (least g count (g.interface class) ≡ Some m) × (m ≤ suc (size below))
  fewest class inputs below fits fit =
      ⊎_elim (λ h. h) (λ s. absurd (nothing_in (g.interface s.class) s.among))
      (found (suc (size below)) class inputs below fits fit (omega arith) count [] tt (λ x h. absurd (nothing_in x h))
      (let z : count + 0 ≡ count = omega arith in z))
