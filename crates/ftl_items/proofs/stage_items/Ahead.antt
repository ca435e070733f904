-- Which of two entries stands ahead in a list.
use Rattle.std.proofs.Common.{◌≡◌, ◌⊎◌, ℕ, zero, suc, ◌+◌, ◌<◌, ◌==◌, Bool, true, false, cond, if◌then◌else◌, refl, sym, ◌∙◌, ap, subst, inl, inr, ⊎_elim, arith, eq-eqb, eqb-true, List, [], ◌∷◌, ◌++◌, filter, flat_map, get_or, length, map, reverse, Contains}
use Rattle.std.specs.List.{range_with_len}
use Rattle.std.proofs.lemmas.List.{get_or_default}
use Rattle.std.proofs.lemmas.List.Elements.{Contains-append_left, Contains-append_right}
use Rattle.ftl_model.specs.lists.Lists.{StandsBefore, place_in}
use Rattle.ftl_model.proofs.lists.Elements.{filter_has, flat_map_has, here_in, in_cases, in_range_from, nothing_in}
use Rattle.ftl_model.proofs.lists.Rising.{Rising, map_has}
use Rattle.ftl_items.proofs.stage_items.Reverses.{reverse-cons, reverse_has}

-- x stands in the list, and y behind it
abbrev pub Ahead : {X : Type 0} → List X → X → X → Type 0
Ahead [] x y = ⊥
Ahead (z ∷ zs) x y = ((z ≡ x) × Contains zs y) ⊎ Ahead zs x y

pub ahead_stands : {X : Type 0} (xs : List X) (x y : X) → Ahead xs x y → StandsBefore xs x y
ahead_stands [] x y h = absurd h
ahead_stands (z ∷ zs) x y (inl h) =
    let there = h.1 in
    let n = there.0 in
    let below = there.1 in (
      0,
      suc n,
      (let less : 0 < suc n = omega arith in less),
      (let within : suc n < length (z ∷ zs) = omega (arith, below) in within),
      (λ d. h.0),
      (λ d. get_or_default zs n d y below ∙ there.2),
    )
ahead_stands (z ∷ zs) x y (inr h) =
    let i = ahead_stands zs x y h in
    let less = i.2 in
    let below = i.3 in (
      suc i.0,
      suc i.1,
      (let l : suc i.0 < suc i.1 = omega (arith, less) in l),
      (let w : suc i.1 < length (z ∷ zs) = omega (arith, below) in w),
      i.4,
      i.5,
    )

ahead_at : {X : Type 0} (xs : List X) (m n : ℕ) (x y : X) → m < n → n < length xs → get_or xs m x ≡ x
    → get_or xs n y ≡ y
    → Ahead xs x y
ahead_at [] m n x y less below at_m at_n = absurd (let z : ⊥ = omega (arith, below) in z)
ahead_at (z ∷ zs) m zero x y less below at_m at_n = absurd (let z : ⊥ = omega (arith, less) in z)
ahead_at (z ∷ zs) zero (suc n) x y less below at_m at_n = inl (at_m, (n, (let l : n < length zs = omega (arith, below) in l), at_n))
ahead_at (z ∷ zs) (suc m) (suc n) x y less below at_m at_n =
    inr (ahead_at zs m n x y (omega (arith, less)) (omega (arith, below)) at_m at_n)

pub stands_ahead : {X : Type 0} (xs : List X) (x y : X) → StandsBefore xs x y → Ahead xs x y
stands_ahead xs x y h = ahead_at xs h.0 h.1 x y h.2 h.3 (h.4 x) (h.5 y)

pub ahead_left : {X : Type 0} (xs ys : List X) (x y : X) → Ahead xs x y → Ahead (xs ++ ys) x y
ahead_left [] ys x y h = absurd h
ahead_left (z ∷ zs) ys x y (inl h) = inl (h.0, Contains-append_left zs ys y h.1)
ahead_left (z ∷ zs) ys x y (inr h) = inr (ahead_left zs ys x y h)

pub ahead_right : {X : Type 0} (xs ys : List X) (x y : X) → Ahead ys x y → Ahead (xs ++ ys) x y
ahead_right [] ys x y h = h
ahead_right (z ∷ zs) ys x y h = inr (ahead_right zs ys x y h)

pub ahead_across : {X : Type 0} (xs ys : List X) (x y : X) → Contains xs x → Contains ys y → Ahead (xs ++ ys) x y
ahead_across [] ys x y hx hy = absurd (nothing_in x hx)
ahead_across (z ∷ zs) ys x y hx hy =
    ⊎_elim (λ same. inl (same, Contains-append_right zs ys y hy))
    (λ later. inr (ahead_across zs ys x y later hy)) (in_cases z x zs hx)

pub ahead-map : {X Y : Type 0} (h : X → Y) (xs : List X) (x y : X) → Ahead xs x y → Ahead (map h xs) (h x) (h y)
ahead-map h [] x y a = absurd a
ahead-map h (z ∷ zs) x y (inl a) = inl (ap h a.0, map_has h zs y a.1)
ahead-map h (z ∷ zs) x y (inr a) = inr (ahead-map h zs x y a)

pub ahead-filter : {X : Type 0} (p : X → Bool) (xs : List X) (x y : X) → Ahead xs x y → p x ≡ true → p y ≡ true
    → Ahead (filter p xs) x y
ahead-filter p [] x y a px py = absurd a
ahead-filter p (z ∷ zs) x y (inl a) px py =
    subst (λ b. Ahead (cond b (z ∷ filter p zs) (filter p zs)) x y) (sym (ap p a.0 ∙ px))
    (inl (a.0, filter_has p zs y a.1 py))
ahead-filter p (z ∷ zs) x y (inr a) px py =
    let i = ahead-filter p zs x y a px py in
    elim (p z) as (λ b. Ahead (cond b (z ∷ filter p zs) (filter p zs)) x y) [ true ↦ inr i | false ↦ i ]

pub ahead-reverse : {X : Type 0} (xs : List X) (x y : X) → Ahead xs x y → Ahead (reverse xs) y x
ahead-reverse [] x y a = absurd a
ahead-reverse (z ∷ zs) x y (inl a) =
    subst (λ l. Ahead l y x) (sym (reverse-cons z zs))
    (ahead_across (reverse zs) (z ∷ []) y x (reverse_has zs y a.1)
    (subst (Contains (z ∷ [])) a.0 (here_in z [])))
ahead-reverse (z ∷ zs) x y (inr a) =
    subst (λ l. Ahead l y x) (sym (reverse-cons z zs))
    (ahead_left (reverse zs) (z ∷ []) y x (ahead-reverse zs x y a))

-- of two pieces
pub ahead-flat_map : {X Y : Type 0} (f : X → List Y) (xs : List X) (x z : X) (a b : Y) → Ahead xs x z
    → Contains (f x) a → Contains (f z) b → Ahead (flat_map f xs) a b
ahead-flat_map f [] x z a b h ha hb = absurd h
ahead-flat_map f (w ∷ ws) x z a b (inl h) ha hb =
    ahead_across (f w) (flat_map f ws) a b (subst (λ v. Contains (f v) a) (sym h.0) ha)
    (flat_map_has f ws z b h.1 hb)
ahead-flat_map f (w ∷ ws) x z a b (inr h) ha hb =
    ahead_right (f w) (flat_map f ws) a b (ahead-flat_map f ws x z a b h ha hb)

-- of one piece
pub ahead_inside : {X Y : Type 0} (f : X → List Y) (xs : List X) (x : X) (a b : Y) → Contains xs x → Ahead (f x) a b
    → Ahead (flat_map f xs) a b
ahead_inside f [] x a b h inside = absurd (nothing_in x h)
ahead_inside f (w ∷ ws) x a b h inside =
    ⊎_elim
    (λ same. ahead_left (f w) (flat_map f ws) a b (subst (λ v. Ahead (f v) a b) (sym same) inside))
    (λ later. ahead_right (f w) (flat_map f ws) a b (ahead_inside f ws x a b later inside)) (in_cases w x ws h)

-- by numbers that rise
pub ahead_rising : {X : Type 0} (f : X → ℕ) (xs : List X) → Rising (λ a b. f a < f b) xs → (x y : X) → Contains xs x
    → Contains xs y → f x < f y → Ahead xs x y
ahead_rising f [] rises x y hx hy less = absurd (nothing_in x hx)
ahead_rising f (z ∷ zs) rises x y hx hy less =
    ⊎_elim
    (λ is_x. inl (
      is_x,
      ⊎_elim
          (λ is_y. absurd
          (let e : f x ≡ f y = ap f (sym is_x ∙ is_y) in let z : ⊥ = omega (arith, less, e) in z))
          (λ later. later) (in_cases z y zs hy),
    ))
    (λ later_x. inr
    (ahead_rising f zs rises.1 x y later_x
    (⊎_elim
    (λ is_y. absurd
    (let r = rises.0 x later_x in
    let e : f z ≡ f y = ap f is_y in
    let z : ⊥ = omega (arith, less, r, e) in
    z))
    (λ later. later) (in_cases z y zs hy)) less)) (in_cases z x zs hx)

pub rising-range : (a n : ℕ) → Rising (λ k l. k < l) (range_with_len a n)
rising-range a zero = tt
rising-range a (suc n) = (
  (λ k h. let low = (in_range_from (a + 1) n k h).0 in let z : a < k = omega (arith, low) in z),
  rising-range (a + 1) n,
)

pub rising_by_map : {X : Type 0} (f : X → ℕ) (xs : List X) → Rising (λ k l. k < l) (map f xs)
    → Rising (λ a b. f a < f b) xs
rising_by_map f [] h = tt
rising_by_map f (x ∷ xs) h = ((λ y there. h.0 (f y) (map_has f xs y there)), rising_by_map f xs h.1)

pub ahead-range : (a n k l : ℕ) → Contains (range_with_len a n) k → Contains (range_with_len a n) l → k < l
    → Ahead (range_with_len a n) k l
ahead-range a n k l hk hl less = ahead_rising (λ k. k) (range_with_len a n) (rising-range a n) k l hk hl less

-- by places in a list of numbers
pub ahead_placed : (xs : List ℕ) (x y : ℕ) → Contains xs x → Contains xs y → place_in xs x < place_in xs y
    → Ahead xs x y
ahead_placed [] x y hx hy less = absurd (nothing_in x hx)
ahead_placed (z ∷ zs) x y hx hy less =
    elim (y == z) as
    (λ b. (y == z ≡ b) → place_in (z ∷ zs) x < (if b then 0 else suc (place_in zs y)) → Ahead (z ∷ zs) x y) [
      | true ↦ λ e less. absurd (let z : ⊥ = omega (arith, less) in z)
      | false ↦ λ e less.
          let later_y =
          ⊎_elim (λ same. absurd (let f = eq-eqb y z (sym same) in let z : ⊥ = grind arith in z)) (λ later. later)
          (in_cases z y zs hy) in
          (elim (x == z) as
          (λ b. (x == z ≡ b) → (if b then 0 else suc (place_in zs x)) < suc (place_in zs y) → Ahead (z ∷ zs) x y) [
            | true ↦ λ f less. inl (sym (eqb-true x z f), later_y)
            | false ↦ λ f less.
                inr
                (ahead_placed zs x y
                (⊎_elim (λ same. absurd (let is = eq-eqb x z (sym same) in let none : ⊥ = grind arith in none))
                (λ later. later) (in_cases z x zs hx))
                later_y (omega (arith, less)))
          ])
          refl less
    ]
    refl less
