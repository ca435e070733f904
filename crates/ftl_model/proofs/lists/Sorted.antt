-- Lists put in order by a number.
use Rattle.std.proofs.Common.{◌≡◌, ◌⊎◌, ℕ, zero, suc, ◌<◌, ◌≤◌, Bool, true, false, leb, if◌then◌else◌, refl, sym, subst, ap, inl, inr, ⊎_elim, arith, leb-true, leb-false, List, [], ◌∷◌, length, get_or, Contains}
use Rattle.std.proofs.lemmas.List.{get_or_default}
use Rattle.ftl_model.specs.lists.Lists.{AreDistinct, insert_by, sorted_by, NoneFalls}
use Rattle.ftl_model.proofs.lists.Elements.{nothing_in, here_in, later_in, in_cases}

in_insert : {X : Type 0} (f : X → ℕ) (x : X) (ys : List X) (z : X) → Contains (insert_by f x ys) z
    → (x ≡ z) ⊎ Contains ys z
in_insert f x [] z h = in_cases x z [] h
in_insert f x (y ∷ ys) z h =
    elim (leb (f x) (f y)) as
    (λ b. Contains (if b then x ∷ (y ∷ ys) else y ∷ insert_by f x ys) z → (x ≡ z) ⊎ Contains (y ∷ ys) z) [
      | true ↦ λ h. in_cases x z (y ∷ ys) h
      | false ↦ λ h.
          ⊎_elim (λ same. inr (subst (Contains (y ∷ ys)) same (here_in y ys)))
          (λ later. ⊎_elim (λ same. inl same) (λ old. inr (later_in y z ys old)) (in_insert f x ys z later))
          (in_cases y z (insert_by f x ys) h)
    ] h

insert_has : {X : Type 0} (f : X → ℕ) (x : X) (ys : List X) (z : X) → (x ≡ z) ⊎ Contains ys z
    → Contains (insert_by f x ys) z
insert_has f x [] z h =
    ⊎_elim (λ same. subst (Contains (x ∷ [])) same (here_in x [])) (λ none. absurd (nothing_in z none)) h
insert_has f x (y ∷ ys) z h =
    elim (leb (f x) (f y)) as (λ b. Contains (if b then x ∷ (y ∷ ys) else y ∷ insert_by f x ys) z) [
      | true ↦ ⊎_elim (λ same. subst (Contains (x ∷ (y ∷ ys))) same (here_in x (y ∷ ys)))
          (λ old. later_in x z (y ∷ ys) old) h
      | false ↦
          ⊎_elim (λ same. later_in y z (insert_by f x ys) (insert_has f x ys z (inl same)))
          (λ old.
          ⊎_elim (λ same. subst (Contains (y ∷ insert_by f x ys)) same (here_in y (insert_by f x ys)))
          (λ later. later_in y z (insert_by f x ys) (insert_has f x ys z (inr later))) (in_cases y z ys old)) h
    ]

pub in_sorted : {X : Type 0} (f : X → ℕ) (xs : List X) (z : X) → Contains (sorted_by f xs) z → Contains xs z
in_sorted f [] z h = h
in_sorted f (x ∷ xs) z h =
    ⊎_elim (λ same. subst (Contains (x ∷ xs)) same (here_in x xs)) (λ old. later_in x z xs (in_sorted f xs z old))
    (in_insert f x (sorted_by f xs) z h)

pub sorted_has : {X : Type 0} (f : X → ℕ) (xs : List X) (z : X) → Contains xs z → Contains (sorted_by f xs) z
sorted_has f [] z h = h
sorted_has f (x ∷ xs) z h =
    insert_has f x (sorted_by f xs) z
    (⊎_elim (λ same. inl same) (λ later. inr (sorted_has f xs z later)) (in_cases x z xs h))

distinct-insert : {X : Type 0} (f : X → ℕ) (x : X) (ys : List X) → (Contains ys x → ⊥) → AreDistinct ys
    → AreDistinct (insert_by f x ys)
distinct-insert f x [] new h = (new, tt)
distinct-insert f x (y ∷ ys) new h =
    elim (leb (f x) (f y)) as (λ b. AreDistinct (if b then x ∷ (y ∷ ys) else y ∷ insert_by f x ys)) [
      | true ↦ (new, h)
      | false ↦ (
        (λ again.
            ⊎_elim (λ same. new (subst (λ z. Contains (y ∷ ys) z) (sym same) (here_in y ys))) h.0
            (in_insert f x ys y again)),
        distinct-insert f x ys (λ old. new (later_in y x ys old)) h.1,
      )
    ]

pub distinct-sorted : {X : Type 0} (f : X → ℕ) (xs : List X) → AreDistinct xs → AreDistinct (sorted_by f xs)
distinct-sorted f [] h = tt
distinct-sorted f (x ∷ xs) h =
    distinct-insert f x (sorted_by f xs) (λ old. h.0 (in_sorted f xs x old)) (distinct-sorted f xs h.1)

none_falls-insert : {X : Type 0} (f : X → ℕ) (x : X) (ys : List X) → NoneFalls f ys → NoneFalls f (insert_by f x ys)
none_falls-insert f x [] h = ((λ y none. absurd (nothing_in y none)), tt)
none_falls-insert f x (y ∷ ys) h = go (leb (f x) (f y)) refl (none_falls-insert f x ys h.1)
  where
    go : (b : Bool) → leb (f x) (f y) ≡ b → NoneFalls f (insert_by f x ys)
        → NoneFalls f (if b then x ∷ (y ∷ ys) else y ∷ insert_by f x ys)
    go true e i =
        let less : f x ≤ f y = leb-true (f x) (f y) e in (
          (λ z old.
              ⊎_elim (λ same. let q : f y ≡ f z = ap f same in omega (arith, less, q))
              (λ later. let k = h.0 z later in omega (arith, less, k)) (in_cases y z ys old)),
          h,
        )
    go false e i =
        let more : f y < f x = leb-false (f x) (f y) e in (
          (λ z old.
              ⊎_elim (λ same. let q : f x ≡ f z = ap f same in omega (arith, more, q)) (λ later. h.0 z later)
              (in_insert f x ys z old)),
          i,
        )

pub none_falls-sorted : {X : Type 0} (f : X → ℕ) (xs : List X) → NoneFalls f (sorted_by f xs)
none_falls-sorted f [] = tt
none_falls-sorted f (x ∷ xs) = none_falls-insert f x (sorted_by f xs) (none_falls-sorted f xs)

not_less_at : {X : Type 0} (f : X → ℕ) (xs : List X) → NoneFalls f xs → (m n : ℕ) (d : X) → m < n → n < length xs
    → f (get_or xs m d) ≤ f (get_or xs n d)
not_less_at f [] h m n d less below = absurd (let z : ⊥ = omega (arith, below) in z)
not_less_at f (x ∷ xs) h m zero d less below = absurd (let z : ⊥ = omega (arith, less) in z)
not_less_at f (x ∷ xs) h zero (suc n) d less below =
    let within : n < length xs = omega (arith, below) in
    h.0 (get_or xs n d) (n, within, get_or_default xs n (get_or xs n d) d within)
not_less_at f (x ∷ xs) h (suc m) (suc n) d less below = not_less_at f xs h.1 m n d (omega (arith, less))
    (omega (arith, below))

pub sorted_at : {X : Type 0} (f : X → ℕ) (xs : List X) (m n : ℕ) (d : X) → m < n → n < length (sorted_by f xs)
    → f (get_or (sorted_by f xs) m d) ≤ f (get_or (sorted_by f xs) n d)
sorted_at f xs = not_less_at f (sorted_by f xs) (none_falls-sorted f xs)
