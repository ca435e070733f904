-- Pages of a context laid out, changed and laid out anew.
use Rattle.std.specs.Prelude.{◌≡◌, ℕ, ℤ, [], ◌∷◌, ◌++◌, length, Some, MatchOption, Result, Ok, Err}
use Rattle.std.specs.List.Sorted.{IsStrictlyIncreasing}
use Rattle.ftl_edits.specs.meaning.Editable.{IsEditOf}
use Rattle.maugzeris.specs.pages.PageState.{IsLaidOut, IsLaidOutAnew, StaysButValues, edit, tree_on}
use Rattle.maugzeris_c.specs.context.State.{ChangesPage, ContextState, DoesNothing, page_of}
use Rattle.maugzeris_c.specs.declared.context.fault.Fault.{Fault}
use Rattle.maugzeris_c.specs.declared.context.fault.Fault.TheVariants.{OutOfMemory, NotTaken, Wrong}
use Rattle.maugzeris_c.specs.declared.context.open_page.OpenPage.{OpenPage}

-- What a call comes to that changes the page of a number: it is done, and the page is another one, as said; or nothing
-- is done, since there is no such page, or for a cause that the page may have.
abbrev pub Changes : {X : Type 0} → (Does : OpenPage → OpenPage → X → Type 0) → (MayFail : OpenPage → Fault → Type 0)
    → (old new : ContextState) → (page : ℕ) → Result X Fault → Type 0
Changes Does MayFail old new page (Ok x) =
    (was : OpenPage) × (is : OpenPage) × (page_of old page ≡ Some was) × ChangesPage old new page is × Does was is x
Changes Does MayFail old new page (Err fault) =
    DoesNothing old new × MatchOption (page_of old page) (fault ≡ Wrong) (λ was. MayFail was fault)

-- ---- laying out

-- the page is laid out, and all else of it stays; nothing changes where it was laid out
abbrev pub LaysOut : (was is : OpenPage) → Unit {0} → Type 0
LaysOut was is _ =
    (is ≡ record was { page = is.page })
    × IsLaidOut is.page
    × StaysButValues was.page is.page
    × (IsLaidOut was.page → is ≡ was)

-- it fails for want of memory alone
abbrev pub WantsMemory : OpenPage → Fault → Type 0
WantsMemory was fault = fault ≡ OutOfMemory

-- ---- inputs

-- an input of a node is given another number, as the last of the page's edits
abbrev pub SetsInput : (node attribute : ℕ) → ℤ → (was is : OpenPage) → Unit {0} → Type 0
SetsInput node attribute value was is _ =
    IsEditOf (tree_on was.page) (edit node attribute value)
    × (is ≡ record was { page = record was.page { edits = was.page.edits ++ edit node attribute value ∷ [] } })

-- it is not taken where the attribute is no input of the node, or the number out of the range of the width
abbrev pub MayNotTake : (node attribute : ℕ) → ℤ → OpenPage → Fault → Type 0
MayNotTake node attribute value was NotTaken = ¬ (IsEditOf (tree_on was.page) (edit node attribute value))
MayNotTake node attribute value was OutOfMemory = Unit {0}
MayNotTake node attribute value was _ = ⊥

-- ---- laying out anew

-- the page is laid out anew, and keeps the touched instances in rising order; so many are told
abbrev pub LaysOutAnew : (was is : OpenPage) → (count : ℕ) → Type 0
LaysOutAnew was is count =
    IsLaidOut was.page
    × IsLaidOutAnew was.page is.page is.touched
    × IsStrictlyIncreasing is.touched
    × (count ≡ length is.touched)

-- it is wrong where the page is not laid out
abbrev pub MayNotBeLaidOut : OpenPage → Fault → Type 0
MayNotBeLaidOut was Wrong = ¬ (IsLaidOut was.page)
MayNotBeLaidOut was OutOfMemory = Unit {0}
MayNotBeLaidOut was _ = ⊥
