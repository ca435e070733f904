-- Where the first entry that passes stands.
use Rattle.std.proofs.Common.{◌≡◌, ℕ, suc, ◌<◌, not, ◌+◌, Bool, true, false, cond, refl, sym, ◌∙◌, ap, subst, ⊎_elim, arith, List, [], ◌∷◌, length, get_or, Contains, Option, Some, None}
use Rattle.std.specs.List.{position, position_or_len, prefix_len}
use Rattle.std.proofs.lemmas.Bool.{both_ways, lt-ltb}
use Rattle.std.proofs.lemmas.Option.{none-some}
use Rattle.std.proofs.lemmas.List.Elements.{Contains-get_or}
use Rattle.std.proofs.lemmas.List.Quantifiers.{position-Some}
use Rattle.ftl_model.proofs.lists.Elements.{in_cases, nothing_in}

passes_within : {X : Type 0} (p : X → Bool) (xs : List X) (x : X) → Contains xs x → p x ≡ true
    → position_or_len p xs < length xs
passes_within p [] x there passes = absurd (nothing_in x there)
passes_within p (y ∷ ys) x there passes =
    elim (p y) as (λ b. (p y ≡ b) → cond (not b) (1 + prefix_len (λ z. not (p z)) ys) 0 < suc (length ys)) [
      | true ↦ λ e. omega arith
      | false ↦ λ e.
          ⊎_elim
          (λ same. absurd (both_ways (p y) e (subst (λ z. p z ≡ true) (sym same) passes)))
          (λ later. let i = passes_within p ys x later passes in omega (arith, i))
          (in_cases y x ys there)
    ]
    refl

-- where there is no position, nothing passes
pub none_passes : {X : Type 0} (p : X → Bool) (xs : List X) → position p xs ≡ None → (x : X) → Contains xs x → p x ≡ true → ⊥
none_passes p xs none x there passes =
    none-some (position_or_len p xs)
    (sym none ∙ ap (λ b. cond b (Some (position_or_len p xs)) None)
    (lt-ltb (position_or_len p xs) (length xs) (passes_within p xs x there passes)))

-- and the other way round
pub no_position : {X : Type 0} (p : X → Bool) (xs : List X) → ((x : X) → Contains xs x → p x ≡ true → ⊥) → position p xs ≡ None
no_position p [] none = refl
no_position p (x ∷ xs) none = go (position p (x ∷ xs)) refl
  where
    go : (o : Option ℕ) → position p (x ∷ xs) ≡ o → position p (x ∷ xs) ≡ None
    go None is = is
    go (Some n) is =
        let at = position-Some p (x ∷ xs) n x is in
        absurd (none (get_or (x ∷ xs) n x) (Contains-get_or (x ∷ xs) n x at.0) at.1)
