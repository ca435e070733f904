-- Lists of pieces that repeat nothing.
use Rattle.std.proofs.Common.{◌≡◌, ℕ, suc, ◌+◌, ◌<◌, ◌≤◌, ◌==◌, Bool, cond, refl, sym, ◌∙◌, ap, subst, ⊎_elim, arith, eq-eqb, List, [], ◌∷◌, ◌++◌, map, flat_map, count_by, Contains}
use Rattle.std.proofs.lemmas.List.Sums.{sum_by-cons}
use Rattle.ftl_model.specs.lists.Lists.{AreDistinct}
use Rattle.ftl_model.proofs.lists.Elements.{distinct-append, here_in, in_cases, in_flat_map, later_in, nothing_in}
use Rattle.ftl_model.proofs.lists.Rising.{in_map, map_has}

pub distinct-map : {X Y : Type 0} (h : X → Y) → ((x z : X) → h x ≡ h z → x ≡ z) → (xs : List X) → AreDistinct xs
    → AreDistinct (map h xs)
distinct-map h only [] d = tt
distinct-map h only (x ∷ xs) d = (
  (λ again.
      let m = in_map h xs (h x) again in
      d.0 (subst (Contains xs) (only m.from x m.is) m.there)),
  distinct-map h only xs d.1,
)

-- pieces that share nothing, of entries that differ
pub distinct_pieces : {X Y : Type 0} (f : X → List Y) → ((x : X) → AreDistinct (f x))
    → ((x z : X) (y : Y) → Contains (f x) y → Contains (f z) y → x ≡ z) → (xs : List X) → AreDistinct xs
    → AreDistinct (flat_map f xs)
distinct_pieces f each apart [] d = tt
distinct_pieces f each apart (x ∷ xs) d =
    distinct-append (f x) (flat_map f xs) (each x) (distinct_pieces f each apart xs d.1)
    (λ y here there.
    let i = in_flat_map f xs y there in
    d.0 (subst (Contains xs) (sym (apart x i.0 y here i.2)) i.1))

-- the same, where only pieces of the list's entries are known
pub distinct_pieces_in : {X Y : Type 0} (f : X → List Y) (xs : List X) → ((x : X) → Contains xs x → AreDistinct (f x))
    → ((x z : X) (y : Y) → Contains xs x → Contains xs z → Contains (f x) y → Contains (f z) y → x ≡ z)
    → AreDistinct xs → AreDistinct (flat_map f xs)
distinct_pieces_in f [] each apart d = tt
distinct_pieces_in f (x ∷ xs) each apart d =
    distinct-append (f x) (flat_map f xs) (each x (here_in x xs))
    (distinct_pieces_in f xs (λ z h. each z (later_in x z xs h))
    (λ z w y hz hw. apart z w y (later_in x z xs hz) (later_in x w xs hw)) d.1)
    (λ y here there.
    let i = in_flat_map f xs y there in
    d.0
    (subst (Contains xs) (sym (apart x i.0 y (here_in x xs) (later_in x i.0 xs i.1) here i.2)) i.1))

-- entries differ where their images do
pub distinct_by_map : {X Y : Type 0} (h : X → Y) (xs : List X) → AreDistinct (map h xs) → AreDistinct xs
distinct_by_map h [] d = tt
distinct_by_map h (x ∷ xs) d = ((λ again. d.0 (map_has h xs x again)), distinct_by_map h xs d.1)

abbrev one : Bool → ℕ
one b = cond b 1 0

pub count-cons : (a x : ℕ) (xs : List ℕ)
    → count_by (λ b. b == a) (x ∷ xs) ≡ one (x == a) + count_by (λ b. b == a) xs
count-cons a x xs = sum_by-cons (λ b. cond (b == a) 1 0) x xs

pub counted_more : (a x : ℕ) (xs : List ℕ) → count_by (λ b. b == a) xs ≤ count_by (λ b. b == a) (x ∷ xs)
counted_more a x xs = let e = count-cons a x xs in omega (arith, e)

pub counted_here : (a x : ℕ) (xs : List ℕ) → x ≡ a
    → count_by (λ b. b == a) (x ∷ xs) ≡ suc (count_by (λ b. b == a) xs)
counted_here a x xs same =
    count-cons a x xs ∙ ap (λ b. one b + count_by (λ b. b == a) xs) (eq-eqb x a same) ∙ (omega arith)

pub in_counted : (xs : List ℕ) (a : ℕ) → Contains xs a → 0 < count_by (λ b. b == a) xs
in_counted [] a h = absurd (nothing_in a h)
in_counted (x ∷ xs) a h =
    ⊎_elim (λ same. let e = counted_here a x xs same in omega (arith, e))
    (λ later. let more = counted_more a x xs in let i = in_counted xs a later in omega (arith, more, i))
    (in_cases x a xs h)

-- pieces that share nothing, of numbers that stand once where their piece has something
pub distinct_counted : {Y : Type 0} (f : ℕ → List Y) → ((a : ℕ) → AreDistinct (f a))
    → ((a b : ℕ) (y : Y) → Contains (f a) y → Contains (f b) y → a ≡ b)
    → (xs : List ℕ) → ((a : ℕ) (y : Y) → Contains (f a) y → count_by (λ b. b == a) xs ≤ 1)
    → AreDistinct (flat_map f xs)
distinct_counted f each apart [] few = tt
distinct_counted f each apart (x ∷ xs) few =
    distinct-append (f x) (flat_map f xs) (each x)
    (distinct_counted f each apart xs
    (λ a y h. let more = counted_more a x xs in let w = few a y h in omega (arith, more, w)))
    (λ y here there.
    let i = in_flat_map f xs y there in
    let again : Contains xs x = subst (Contains xs) (sym (apart x i.0 y here i.2)) i.1 in
    let c = in_counted xs x again in
    let e = counted_here x x xs refl in
    let w = few x y here in
    let z : ⊥ = omega (arith, c, e, w) in
    z)

pub flat_map-map : {X Y Z : Type 0} (f : Y → List Z) (h : X → Y) (xs : List X)
    → flat_map f (map h xs) ≡ flat_map (λ x. f (h x)) xs
flat_map-map f h [] = refl
flat_map-map f h (x ∷ xs) = ap (λ r. f (h x) ++ r) (flat_map-map f h xs)
