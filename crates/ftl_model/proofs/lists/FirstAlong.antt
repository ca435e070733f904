-- Where nothing is found along a list.
use Rattle.std.proofs.Common.{◌≡◌, List, [], ◌∷◌, Option, Some, None, refl, subst, ⊎_elim, Contains}
use Rattle.std.specs.Option.{option_or}
use Rattle.ftl_model.specs.lists.FirstAlong.{first_along}
use Rattle.ftl_model.proofs.lists.Elements.{here_in, in_cases, later_in, nothing_in}

-- both of two are none
pub record Neither {F : Type 0} (x y : Option F) : Type 0 where
  pub first : x ≡ None
  pub later : y ≡ None

pub neither : {F : Type 0} (x y : Option F) → option_or x y ≡ None → Neither x y
neither (Some x) y e = cc
neither None y e = record { first = refl; later = e }

pub or_none : {F : Type 0} (x y : Option F) → x ≡ None → y ≡ None → option_or x y ≡ None
or_none (Some x) y e f = cc
or_none None y e f = f

-- nothing is found at any entry
pub none_along : {X F : Type 0} (found_at : X → Option F) (xs : List X) → first_along found_at xs ≡ None
    → (x : X) → Contains xs x → found_at x ≡ None
none_along found_at [] e x there = absurd (nothing_in x there)
none_along found_at (y ∷ ys) e x there =
    let both = neither (found_at y) (first_along found_at ys) e in
    ⊎_elim (λ same. subst (λ z. found_at z ≡ None) same both.first)
    (λ later. none_along found_at ys both.later x later) (in_cases y x ys there)

-- and the other way round
pub along_none : {X F : Type 0} (found_at : X → Option F) (xs : List X)
    → ((x : X) → Contains xs x → found_at x ≡ None) → first_along found_at xs ≡ None
along_none found_at [] each = refl
along_none found_at (y ∷ ys) each =
    or_none (found_at y) (first_along found_at ys) (each y (here_in y ys))
    (along_none found_at ys (λ x there. each x (later_in y x ys there)))
