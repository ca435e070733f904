-- Two fronts of one list.
use Rattle.std.proofs.Common.{◌≡◌, List, [], ◌∷◌, ◌++◌, sym, refl, ap, subst}

-- two ways to part one list: at one place, or one front goes on in the other
pub data Parting {X : Type 0} (f g r s : List X) : Type 0 where
  together : r ≡ s → Parting f g r s
  sooner : (x : X) (more : List X) → r ≡ x ∷ (more ++ s) → g ≡ f ++ (x ∷ more) → Parting f g r s
  later : (x : X) (more : List X) → s ≡ x ∷ (more ++ r) → f ≡ g ++ (x ∷ more) → Parting f g r s

parting-cons : {X : Type 0} {x : X} {f g r s : List X} → Parting f g r s → Parting (x ∷ f) (x ∷ g) r s
parting-cons (together e) = together e
parting-cons {x = x} (sooner y more rest front) = sooner y more rest (ap (λ l. x ∷ l) front)
parting-cons {x = x} (later y more rest front) = later y more rest (ap (λ l. x ∷ l) front)

-- any two fronts of one list part it so
pub parting : {X : Type 0} (f g r s : List X) → f ++ r ≡ g ++ s → Parting f g r s
parting [] [] r s e = together e
parting [] (x ∷ g) r s e = sooner x g e refl
parting (x ∷ f) [] r s e = later x f (sym e) refl
parting (x ∷ f) (y ∷ g) r s e =
    let same : x ≡ y = cc in
    let rest : f ++ r ≡ g ++ s = cc in
    subst (λ l. Parting (x ∷ f) (l ∷ g) r s) same (parting-cons (parting f g r s rest))
