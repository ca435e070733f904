-- The place_is of an attribute in schedules that are joined.
use Rattle.std.proofs.Common.{◌≡◌, ℕ, zero, suc, ◌+◌, ◌<◌, ◌≤◌, Bool, true, false, if◌then◌else◌, refl, sym, ◌∙◌, ap, arith, List, [], ◌∷◌, ◌++◌, length, get_or, flat_map}
use Rattle.ftl_model.specs.lists.Lists.{place_in}
use Rattle.ftl_order.specs.orders.Schedule.{Pass, Schedule, SchedulePlace, pass_of, has_entry, stage_of, pass_at, placing_of}

-- some stage lists the attribute
abbrev pub lists : Schedule → ℕ → Bool
lists [] a = false
lists (passes ∷ s) a = if has_entry passes a then true else lists s a

pub lists-append : (xs ys : Schedule) (a : ℕ) → lists (xs ++ ys) a ≡ (if lists xs a then true else lists ys a)
lists-append [] ys a = refl
lists-append (passes ∷ xs) ys a =
    elim (has_entry passes a) as
    (λ b. (if b then true else lists (xs ++ ys) a)
    ≡ (if (if b then true else lists xs a) then true else lists ys a))
    [ true ↦ refl | false ↦ lists-append xs ys a ]

abbrev pub restage : SchedulePlace → ℕ → SchedulePlace
restage x n = record { stage = n; pass = x.pass; kind = x.kind; index = x.index }

-- the same so many stages later
abbrev pub later : ℕ → SchedulePlace → SchedulePlace
later n x = restage x (n + x.stage)

abbrev stage_place : Schedule → ℕ → ℕ → SchedulePlace
stage_place s n a =
    record {
      stage = n;
      pass = pass_of (get_or s n []) a;
      kind = (pass_at s n (pass_of (get_or s n []) a)).kind;
      index = place_in (pass_at s n (pass_of (get_or s n []) a)).attributes a;
    }

pub place_here : (passes : List Pass) (zs : Schedule) (a : ℕ) → has_entry passes a ≡ true
    → placing_of (passes ∷ zs) a ≡ stage_place (passes ∷ []) 0 a
place_here passes zs a e = ap (λ b. stage_place (passes ∷ zs) (if b then 0 else suc (stage_of zs a)) a) e

pub place_next : (passes : List Pass) (zs : Schedule) (a : ℕ) → has_entry passes a ≡ false
    → placing_of (passes ∷ zs) a ≡ restage (placing_of zs a) (suc (stage_of zs a))
place_next passes zs a e = ap (λ b. stage_place (passes ∷ zs) (if b then 0 else suc (stage_of zs a)) a) e

differ : {X : Type 0} → false ≡ true → X
differ e = absurd (let z : ⊥ = grind arith in z)

pub place_left : (xs ys : Schedule) (a : ℕ) → lists xs a ≡ true → placing_of (xs ++ ys) a ≡ placing_of xs a
place_left [] ys a h = differ h
place_left (passes ∷ xs) ys a h =
    elim (has_entry passes a) as
    (λ b. (has_entry passes a ≡ b) → (if b then true else lists xs a) ≡ true
    → placing_of ((passes ∷ xs) ++ ys) a ≡ placing_of (passes ∷ xs) a) [
      | true ↦ λ e h. place_here passes (xs ++ ys) a e ∙ sym (place_here passes xs a e)
      | false ↦ λ e h.
          place_next passes (xs ++ ys) a e
          ∙ ap (λ (x : SchedulePlace). restage x (suc x.stage)) (place_left xs ys a h)
          ∙ sym (place_next passes xs a e)
    ]
    refl h

pub place_right : (xs ys : Schedule) (a : ℕ) → lists xs a ≡ false
    → placing_of (xs ++ ys) a ≡ later (length xs) (placing_of ys a)
place_right [] ys a h =
    let z : stage_of ys a ≡ 0 + stage_of ys a = omega arith in ap (restage (placing_of ys a)) z
place_right (passes ∷ xs) ys a h =
    elim (has_entry passes a) as
    (λ b. (has_entry passes a ≡ b) → (if b then true else lists xs a) ≡ false
    → placing_of ((passes ∷ xs) ++ ys) a ≡ later (length (passes ∷ xs)) (placing_of ys a)) [
      | true ↦ λ e h. differ (sym h)
      | false ↦ λ e h.
          place_next passes (xs ++ ys) a e
          ∙ ap (λ (x : SchedulePlace). restage x (suc x.stage)) (place_right xs ys a h)
          ∙ (let z : suc (length xs + stage_of ys a) ≡ suc (length xs) + stage_of ys a = omega arith in
          ap (restage (placing_of ys a)) z)
    ]
    refl h

pub stage_within : (xs : Schedule) (a : ℕ) → lists xs a ≡ true → stage_of xs a < length xs
stage_within [] a h = differ h
stage_within (passes ∷ xs) a h =
    elim (has_entry passes a) as
    (λ b. (if b then true else lists xs a) ≡ true → (if b then 0 else suc (stage_of xs a)) < suc (length xs))
    [ true ↦ λ h. omega arith | false ↦ λ h. let i = stage_within xs a h in omega (arith, i) ]
    h

abbrev pub first_with : {X : Type 0} → (X → Bool) → List X → ℕ
first_with p [] = 0
first_with p (x ∷ xs) = if p x then 0 else suc (first_with p xs)

-- how many stages those before the n-th make
abbrev pub before : {X : Type 0} → (X → Schedule) → List X → ℕ → ℕ
before f [] n = 0
before f (x ∷ xs) zero = 0
before f (x ∷ xs) (suc n) = length (f x) + before f xs n

pub before_rises : {X : Type 0} (f : X → Schedule) (xs : List X) (n m : ℕ) (d : X) → n < m → n < length xs
    → before f xs n + length (f (get_or xs n d)) ≤ before f xs m
before_rises f [] n m d less within = absurd (let z : ⊥ = omega (arith, within) in z)
before_rises f (x ∷ xs) zero zero d less within = absurd (let z : ⊥ = omega (arith, less) in z)
before_rises f (x ∷ xs) zero (suc m) d less within = omega arith
before_rises f (x ∷ xs) (suc n) zero d less within = absurd (let z : ⊥ = omega (arith, less) in z)
before_rises f (x ∷ xs) (suc n) (suc m) d less within =
    let i = before_rises f xs n m d (omega (arith, less)) (omega (arith, within)) in omega (arith, i)

-- an attribute that is listed where the parts are joined stands in the first part that lists it
pub record StandsIn {X : Type 0} (f : X → Schedule) (xs : List X) (a n : ℕ) (d : X) : Type 0 where
  pub within : n < length xs
  pub listed : lists (f (get_or xs n d)) a ≡ true
  pub place_is : placing_of (flat_map f xs) a ≡ later (before f xs n) (placing_of (f (get_or xs n d)) a)

pub stands_in : {X : Type 0} (f : X → Schedule) (xs : List X) (a : ℕ) (d : X) → lists (flat_map f xs) a ≡ true
    → StandsIn f xs a (first_with (λ x. lists (f x) a) xs) d
stands_in f [] a d h = differ h
stands_in f (x ∷ xs) a d h =
    elim (lists (f x) a) as
    (λ b. (lists (f x) a ≡ b) → (if b then true else lists (flat_map f xs) a) ≡ true
    → StandsIn f (x ∷ xs) a (if b then 0 else suc (first_with (λ x. lists (f x) a) xs)) d) [
      | true ↦ λ e h.
          record {
            within = omega arith;
            listed = e;
            place_is =
                place_left (f x) (flat_map f xs) a e
                ∙ (let z : stage_of (f x) a ≡ 0 + stage_of (f x) a = omega arith in ap (restage (placing_of (f x) a)) z);
          }
      | false ↦ λ e h.
          let i = stands_in f xs a d h in
          let n = first_with (λ x. lists (f x) a) xs in
          let y = f (get_or xs n d) in
          let w = i.within in
          record {
            within = omega (arith, w);
            listed = i.listed;
            place_is =
                place_right (f x) (flat_map f xs) a e
                ∙ ap (later (length (f x))) i.place_is
                ∙ (let z : length (f x) + (before f xs n + stage_of y a) ≡
                (length (f x) + before f xs n) + stage_of y a = omega arith in
                ap (restage (placing_of y a)) z);
          }
    ]
    refl (sym (lists-append (f x) (flat_map f xs) a) ∙ h)
