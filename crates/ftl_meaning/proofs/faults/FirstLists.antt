-- The first fault of lists that are joined, picked or made of others.
use Rattle.std.proofs.Common.{◌≡◌, Bool, true, false, cond, if◌then◌else◌, List, [], ◌∷◌, ◌++◌, map, filter, flat_map, Option, Some, None, refl, sym, ◌∙◌, ap}
use Rattle.ftl_meaning.specs.faults.FirstFault.{first_there, first_of}
use Rattle.ftl_meaning.specs.declared.faults.fault.GrammarFault.{GrammarFault}

-- the first of one more
pub there_cons : (o : Option GrammarFault) (os : List (Option GrammarFault)) → first_there (o ∷ os) ≡ first_there (o ∷ first_there os ∷ [])
there_cons (Some x) os = refl
there_cons None os = by_rest (first_there os)
  where
    by_rest : (r : Option GrammarFault) → r ≡ first_there (r ∷ [])
    by_rest None = refl
    by_rest (Some x) = refl

-- the first of two lists
pub there_append : (os ps : List (Option GrammarFault)) → first_there (os ++ ps) ≡ first_there (first_there os ∷ first_there ps ∷ [])
there_append [] ps = by_rest (first_there ps)
  where
    by_rest : (r : Option GrammarFault) → r ≡ first_there (r ∷ [])
    by_rest None = refl
    by_rest (Some x) = refl
there_append (None ∷ os) ps = there_append os ps
there_append (Some x ∷ os) ps = refl

-- the first of two lists of entries
pub of_append : {X : Type 0} (f : X → Option GrammarFault) (xs ys : List X)
    → first_of f (xs ++ ys) ≡ first_there (first_of f xs ∷ first_of f ys ∷ [])
of_append f [] ys = by_rest (first_of f ys)
  where
    by_rest : (r : Option GrammarFault) → r ≡ first_there (r ∷ [])
    by_rest None = refl
    by_rest (Some x) = refl
of_append f (x ∷ xs) ys = by_head (f x) (of_append f xs ys)
  where
    by_head : (o : Option GrammarFault) → first_of f (xs ++ ys) ≡ first_there (first_of f xs ∷ first_of f ys ∷ [])
        → first_there (o ∷ map f (xs ++ ys)) ≡ first_there (first_there (o ∷ map f xs) ∷ first_of f ys ∷ [])
    by_head None rest = rest
    by_head (Some e) rest = refl

-- the first of entries that are picked
pub of_picked : {X Y : Type 0} (f : Y → Option GrammarFault) (m : X → Y) (p : X → Bool) (xs : List X)
    → first_of f (map m (filter p xs)) ≡ first_of (λ x. if p x then f (m x) else None) xs
of_picked f m p [] = refl
of_picked f m p (x ∷ xs) = by_test (p x) (of_picked f m p xs)
  where
    by_test : (b : Bool) → first_of f (map m (filter p xs)) ≡ first_of (λ x. if p x then f (m x) else None) xs
        → first_of f (map m (cond b (x ∷ filter p xs) (filter p xs)))
        ≡ first_there ((if b then f (m x) else None) ∷ map (λ x. if p x then f (m x) else None) xs)
    by_test false rest = rest
    by_test true rest = by_head (f (m x))
      where
        by_head : (o : Option GrammarFault) → first_there (o ∷ map f (map m (filter p xs)))
            ≡ first_there (o ∷ map (λ x. if p x then f (m x) else None) xs)
        by_head None = rest
        by_head (Some e) = refl

-- the first of lists that are joined
pub of_joined : {X Y : Type 0} (f : Y → Option GrammarFault) (h : X → List Y) (xs : List X)
    → first_of f (flat_map h xs) ≡ first_of (λ x. first_of f (h x)) xs
of_joined f h [] = refl
of_joined f h (x ∷ xs) =
    of_append f (h x) (flat_map h xs)
    ∙ ap (λ r. first_there (first_of f (h x) ∷ r ∷ [])) (of_joined f h xs)
    ∙ sym (there_cons (first_of f (h x)) (map (λ x. first_of f (h x)) xs))

-- two looks that agree
pub of_same : {X : Type 0} (f h : X → Option GrammarFault) → ((x : X) → f x ≡ h x) → (xs : List X) → first_of f xs ≡ first_of h xs
of_same f h same [] = refl
of_same f h same (x ∷ xs) =
    there_cons (f x) (map f xs) ∙ ap (λ r. first_there (f x ∷ r ∷ [])) (of_same f h same xs)
    ∙ sym (there_cons (f x) (map h xs)) ∙ ap (λ o. first_there (o ∷ map h xs)) (same x)
