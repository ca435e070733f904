-- How a call on a page follows what it does to the page.
use Rattle.std.proofs.Common.{◌≡◌, ◌≢◌, ℕ, Bool, not, refl, sym, subst, ap, ◌∙◌, true, false, List, [], ◌∷◌, zero, suc}
use Rattle.std.proofs.Common.{get_or, slice_set, Bor}
use Rattle.std.proofs.Common.{Option, Some, None, Result, Ok, Err, IfOk, IfErr, OnErr, slice_get, unwrap_or, is_some}
use Rattle.std.proofs.lemmas.Bool.{both_ways}
use Rattle.std.specs.Option.{MatchOption, option_copied}
use Rattle.maugzeris_c.specs.context.Changing.{Changes}
use Rattle.maugzeris_c.specs.context.State.{ChangesPage, ContextState, page_of}
use Rattle.maugzeris_c.specs.declared.context.fault.Fault.{Fault}
use Rattle.maugzeris_c.specs.declared.context.fault.Fault.TheVariants.{Wrong}
use Rattle.maugzeris_c.specs.declared.context.open_page.OpenPage.{OpenPage}

-- what a reference points to is there
pub is_there : {X : Type 0} (o : Option (Bor X)) (p : Option X) → option_copied o ≡ p → is_some o ≡ true
    → is_some p ≡ true
is_there (Some b) p e s = ap is_some (sym e)
is_there None p e s = absurd (both_ways false refl s)

-- the item of a place that is there, as it is read
pub item_there : {X : Type 0} (xs : List (Option X)) (n : ℕ) (r : Option X)
    → is_some (unwrap_or (slice_get xs n) None) ≡ true → r ≡ get_or xs n r → unwrap_or (slice_get xs n) None ≡ r
item_there [] n r s e = absurd (both_ways false refl s)
item_there (x ∷ xs) zero r s e = sym e
item_there (x ∷ xs) (suc n) r s e = item_there xs n r s e

-- an item that is put where it was
pub set_same : {X : Type 0} (xs : List (Option X)) (n : ℕ) (x : X) → unwrap_or (slice_get xs n) None ≡ Some x
    → slice_set xs n (Some x) ≡ xs
set_same [] n x e = refl
set_same (y ∷ xs) zero x e = ap (λ z. z ∷ xs) (sym e)
set_same (y ∷ xs) (suc n) x e = ap (λ zs. y ∷ zs) (set_same xs n x e)

-- the page was there, and the call was made on it
pub changed : {X : Type 0} (Does : OpenPage → OpenPage → X → Type 0) (MayFail : OpenPage → Fault → Type 0)
    (c d : ContextState) (page : ℕ) (was is : OpenPage) (done : Result X Fault) → page_of c page ≡ Some was
    → ChangesPage c d page is → IfOk done (Does was is) → IfErr done (MayFail was) → OnErr done (is ≡ was)
    → Changes Does MayFail c d page done
changed Does MayFail c d page was is (Ok x) there changes does fails same = (was, is, there, changes, does)
changed Does MayFail c d page was is (Err f) there changes does fails same = (
  changes
      ∙ ap (λ (p : OpenPage). record c { pages = slice_set c.pages page (Some p) }) same
      ∙ ap (λ (ps : List (Option OpenPage)). record c { pages = ps }) (set_same c.pages page was there),
  subst (λ (o : Option OpenPage). MatchOption o (f ≡ Wrong) (λ w. MayFail w f)) (sym there) fails,
)

-- what a call finds of the page of a number: `b` is the context by its fields, `found` the page that was looked for,
-- and `place` what stands at the number
pub record Finds (c b : ContextState) (page : ℕ) (found : Option (Bor OpenPage)) (none : Bool)
    (place : Option OpenPage) : Type 0 where
  pub same : b ≡ c
  pub looked_for : option_copied found ≡ page_of c page
  pub test : is_some found ≡ not none
  pub some : none ≡ false
  pub stands : place ≡ get_or b.pages page place

-- the page is what stands at the number
pub page_found : (c b : ContextState) (page : ℕ) (found : Option (Bor OpenPage)) (none : Bool) (place : Option OpenPage)
    → Finds c b page found none place → page_of c page ≡ place
page_found c b page found none place finds =
    item_there c.pages page place
    (is_there found (page_of c page) finds.looked_for (finds.test ∙ ap not finds.some))
    (subst (λ (x : ContextState). place ≡ get_or x.pages page place) finds.same finds.stands)

-- the call was made on the page that was found
pub found_changed : {X : Type 0} (Does : OpenPage → OpenPage → X → Type 0) (MayFail : OpenPage → Fault → Type 0)
    (c b d : ContextState) (page : ℕ) (found : Option (Bor OpenPage)) (none : Bool) (place : Option OpenPage)
    (was is : OpenPage) (done result : Result X Fault) → Finds c b page found none place → place ≡ Some was
    → ChangesPage b d page is → result ≡ done → IfOk done (Does was is) → IfErr done (MayFail was)
    → OnErr done (is ≡ was) → Changes Does MayFail c d page result
found_changed Does MayFail c b d page found none place was is done result finds stands changes told does fails same =
    subst (λ (r : Result _ Fault). Changes Does MayFail c d page r) (sym told)
    (changed Does MayFail c d page was is done (page_found c b page found none place finds ∙ stands)
    (changes ∙ ap (λ (x : ContextState). record x { pages = slice_set x.pages page (Some is) }) finds.same)
    does fails same)

-- there is one
pub is_found : (c b : ContextState) (page : ℕ) (found : Option (Bor OpenPage)) (none : Bool) (place : Option OpenPage)
    → Finds c b page found none place → place ≢ None
is_found c b page found none place finds e =
    both_ways (is_some (page_of c page))
    (ap is_some (page_found c b page found none place finds ∙ e))
    (is_there found (page_of c page) finds.looked_for (finds.test ∙ ap not finds.some))
