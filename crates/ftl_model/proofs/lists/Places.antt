-- The place of a number in a list.
use Rattle.std.proofs.Common.{◌≡◌, ℕ, zero, suc, ◌+◌, ◌-◌, ◌<◌, ◌≤◌, ◌==◌, true, false, if◌then◌else◌, refl, sym, ◌∙◌, ap, subst, arith, List, [], ◌∷◌, length, get_or, take, flat_map, Contains, ⊎_elim, eqb-true, eq-eqb, ne_eqb, length-append}
use Rattle.std.proofs.lemmas.Bool.{cases_lt}
use Rattle.std.proofs.lemmas.List.Elements.{Contains-get_or}
use Rattle.ftl_model.specs.lists.Lists.{place_in, AreDistinct}

in_tail : (y x : ℕ) (ys : List ℕ) → (x ≡ y → ⊥) → Contains (y ∷ ys) x → Contains ys x
in_tail y x ys differ h = go h.0 h.1 h.2
  where
    go : (k : ℕ) → k < length (y ∷ ys) → get_or (y ∷ ys) k x ≡ x → Contains ys x
    go zero below e = absurd (differ (sym e))
    go (suc k) below e = (k, let z : k < length ys = omega (arith, below) in z, e)

pub place_within : (xs : List ℕ) (x : ℕ) → Contains xs x → place_in xs x < length xs
place_within [] x h = absurd (let b = h.1 in let z : ⊥ = omega (arith, b) in z)
place_within (y ∷ ys) x h =
    elim (x == y) as (λ b. (x == y ≡ b) → (if b then 0 else suc (place_in ys x)) < suc (length ys)) [
      | true ↦ λ e. omega arith
      | false ↦ λ e.
          let i = place_within ys x (in_tail y x ys (λ same. let z : ⊥ = cc (eq-eqb x y same) in z) h) in
          omega (arith, i)
    ]
    refl

pub place_is : (xs : List ℕ) (x d : ℕ) → Contains xs x → get_or xs (place_in xs x) d ≡ x
place_is [] x d h = absurd (let b = h.1 in let z : ⊥ = omega (arith, b) in z)
place_is (y ∷ ys) x d h =
    elim (x == y) as (λ b. (x == y ≡ b) → get_or (y ∷ ys) (if b then 0 else suc (place_in ys x)) d ≡ x) [
      | true ↦ λ e. sym (eqb-true x y e)
      | false ↦ λ e. place_is ys x d (in_tail y x ys (λ same. let z : ⊥ = cc (eq-eqb x y same) in z) h)
    ]
    refl

-- among numbers that differ each stands at its first place
pub place_of_entry : (xs : List ℕ) → AreDistinct xs → (j d : ℕ) → j < length xs → place_in xs (get_or xs j d) ≡ j
place_of_entry [] differ j d below = absurd (let z : ⊥ = omega (arith, below) in z)
place_of_entry (y ∷ ys) differ zero d below = ap (λ b. if b then 0 else suc (place_in ys y)) (eq-eqb y y refl)
place_of_entry (y ∷ ys) differ (suc j) d below =
    let within : j < length ys = omega (arith, below) in
    let x = get_or ys j d in
    ap (λ b. if b then 0 else suc (place_in ys x))
    (ne_eqb x y (λ same. differ.0 (subst (Contains ys) same (Contains-get_or ys j d within))))
    ∙ ap suc (place_of_entry ys differ.1 j d within)

-- the piece of a list of pieces in which a place falls
pub record Piece {X A : Type 0} (f : X → List A) (d : X) (xs : List X) (n : ℕ) : Type 0 where
  pub piece : ℕ
  pub place : ℕ
  pub known : piece < length xs
  pub within : place < length (f (get_or xs piece d))
  pub is : length (flat_map f (take piece xs)) + place ≡ n

next_piece : {X A : Type 0} (f : X → List A) (d x : X) (xs : List X) (n : ℕ) → length (f x) ≤ n
    → Piece f d xs (n - length (f x))
    → Piece f d (x ∷ xs) n
next_piece f d x xs n late later =
    record {
      piece = suc later.piece;
      place = later.place;
      known = (let k = later.known in omega (arith, k));
      within = later.within;
      is = (let e = later.is in omega (arith, e, late, length-append (f x) (flat_map f (take later.piece xs))));
    }

pub piece_of : {X A : Type 0} (f : X → List A) (d : X) (xs : List X) (n : ℕ) → n < length (flat_map f xs) → Piece f d xs n
piece_of f d [] n below = absurd (let z : ⊥ = omega (arith, below) in z)
piece_of f d (x ∷ xs) n below =
    ⊎_elim (λ early. record { piece = 0; place = n; known = omega arith; within = early; is = omega arith })
    (λ late. next_piece f d x xs n late
    (piece_of f d xs (n - length (f x)) (omega (arith, below, late, length-append (f x) (flat_map f xs)))))
    (cases_lt n (length (f x)))

-- a place in a piece is a place in the whole
pub piece_within : {X A : Type 0} (f : X → List A) (d : X) (xs : List X) (i j : ℕ) → i < length xs
    → j < length (f (get_or xs i d))
    → length (flat_map f (take i xs)) + j < length (flat_map f xs)
piece_within f d [] i j known within = absurd (let z : ⊥ = omega (arith, known) in z)
piece_within f d (x ∷ xs) zero j known within = omega (arith, within, length-append (f x) (flat_map f xs))
piece_within f d (x ∷ xs) (suc i) j known within =
    let later = piece_within f d xs i j (omega (arith, known)) within in
    omega (arith, later, length-append (f x) (flat_map f xs), length-append (f x) (flat_map f (take i xs)))
