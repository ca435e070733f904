-- The values of a page, where they are there.
use Rattle.std.proofs.Common.{◌≡◌, Bool, true, false, refl, List, [], None, unwrap_or}
use Rattle.std.specs.Prelude.{IsSomeAnd}
use Rattle.ftl_model.specs.layout.Values.{Value}
use Rattle.maugzeris.specs.pages.PageInside.{values_if}

-- where some fact is known of them, they are there
pub are_there : (b : Bool) (values : List Value) (P : List Value → Type 0) → IsSomeAnd (values_if b values) P → b ≡ true
are_there true values P h = refl
are_there false values P h = absurd h

-- and these are they
pub those_there : (b : Bool) (values : List Value) → b ≡ true → unwrap_or (values_if b values) [] ≡ values
those_there true values is = refl
those_there false values is = absurd cc

pub if_there : (b : Bool) (values : List Value) (P : List Value → Type 0) → b ≡ true → P values
    → IsSomeAnd (values_if b values) P
if_there true values P is h = h
if_there false values P is h = absurd cc

-- where there are none, they are not there
pub not_there : (b : Bool) (values : List Value) → values_if b values ≡ None → b ≡ false
not_there true values is = absurd cc
not_there false values is = refl
