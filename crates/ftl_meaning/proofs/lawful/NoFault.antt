-- What follows where no fault is found.
use Rattle.std.proofs.Common.{◌≡◌, Bool, true, false, refl, sym, List, [], ◌∷◌, map, Contains, Option, Some, None}
use Rattle.std.specs.List.{AllByRecursion}
use Rattle.std.proofs.lemmas.Option.{none-some}
use Rattle.ftl_model.proofs.lists.Elements.{each_in}
use Rattle.ftl_model.proofs.lists.Rising.{map_has}
use Rattle.ftl_meaning.specs.declared.faults.fault.GrammarFault.{GrammarFault}
use Rattle.ftl_meaning.specs.faults.FirstFault.{fault_if, first_of, first_there}

-- each of a list of conditions
pub none_in : (xs : List (Option GrammarFault)) → first_there xs ≡ None → AllByRecursion (λ x. x ≡ None) xs
none_in [] h = tt
none_in (None ∷ xs) h = (refl, none_in xs h)
none_in (Some x ∷ xs) h = absurd (none-some x (sym h))

-- each of some entries
pub none_of : {X : Type 0} (f : X → Option GrammarFault) (xs : List X) → first_of f xs ≡ None
    → (x : X) → Contains xs x → f x ≡ None
none_of f xs h x in_it = each_in (λ y. y ≡ None) (map f xs) (none_in (map f xs) h) (f x) (map_has f xs x in_it)

-- a condition that is no fault doesn't hold
pub no_fault : (b : Bool) (x : GrammarFault) → fault_if b x ≡ None → b ≡ false
no_fault true x h = absurd (none-some x (sym h))
no_fault false x h = refl
