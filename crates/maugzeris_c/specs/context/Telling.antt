-- What is told of a context and its pages.
use Rattle.std.specs.Prelude.{◌≡◌, ◌≢◌, ◌<◌, ◌≤◌, ℕ, ℤ, true, false, List, ◌++◌, drop, length, IsUtf8, MatchOption}
use Rattle.std.specs.Prelude.{Result, Ok, Err}
use Rattle.std.specs.List.{All}
use Rattle.ftl_model.specs.layout.Tree.{size}
use Rattle.ftl_model.specs.layout.Values.{number, overflow}
use Rattle.maugzeris.specs.pages.PageState.{HasAttribute, IsLaidOut, PageState, value_on}
use Rattle.maugzeris_c.specs.context.Shown.{attribute_name_on, attributes_on, boxes_on, overflows_on}
use Rattle.maugzeris_c.specs.context.State.{ContextState, page_of}
use Rattle.maugzeris_c.specs.declared.context.fault.Fault.{Fault}
use Rattle.maugzeris_c.specs.declared.context.fault.Fault.TheVariants.{Overflow, OutOfMemory, Wrong, NoRoom}
use Rattle.maugzeris_c.specs.declared.context.open_page.OpenPage.{OpenPage}

-- what a call comes to that asks the page of a number: wrong where there is none, else what it comes to with that
abbrev pub Asks : {X : Type 0} → ContextState → (page : ℕ) → (Comes : OpenPage → Result X Fault → Type 0)
    → Result X Fault → Type 0
Asks c page Comes done = MatchOption (page_of c page) (done ≡ Err Wrong) (λ p. Comes p done)

-- ---- numbers

-- how many nodes there are
abbrev pub TellsCount : OpenPage → Result ℕ Fault → Type 0
TellsCount p done = done ≡ Ok (size p.page.tree)

-- the attribute of a node that has this name; wrong where there is no such node or attribute, as where the name is no
-- text
abbrev pub TellsAttribute : (node : ℕ) → (name : List ℕ) → OpenPage → Result ℕ Fault → Type 0
TellsAttribute node name p (Ok attribute) =
    (node < size p.page.tree)
    × HasAttribute p.page node attribute
    × (attribute_name_on p.page attribute ≡ name)
TellsAttribute node name p (Err Wrong) =
    node < size p.page.tree
    → IsUtf8 name
    → All (λ attribute. attribute_name_on p.page attribute ≢ name) (attributes_on p.page node)
TellsAttribute node name p (Err _) = ⊥

-- the page is laid out, and the node has the attribute
pub record HasValue (p : PageState) (node attribute : ℕ) : Type 0 where
  pub laid_out : IsLaidOut p
  pub within : node < size p.tree
  pub has : HasAttribute p node attribute

-- the value of an attribute of a node, or that it is Overflow; wrong where it has none
abbrev pub TellsValue : (node attribute : ℕ) → OpenPage → Result ℤ Fault → Type 0
TellsValue node attribute p (Ok n) = HasValue p.page node attribute × (value_on p.page node attribute ≡ number n)
TellsValue node attribute p (Err Overflow) =
    HasValue p.page node attribute × (value_on p.page node attribute ≡ overflow)
TellsValue node attribute p (Err Wrong) = ¬ (HasValue p.page node attribute)
TellsValue node attribute p (Err _) = ⊥

-- ---- lists, in the caller's buffer and length, each as it was and as it is

-- the items are the first of the buffer, whose rest stays, and their number is told
pub record IsFilled {X : Type 0} (items was is : List X) (needed : ℕ) : Type 0 where
  pub fits : length items ≤ length was
  pub filled : is ≡ items ++ drop (length items) was
  pub told : needed ≡ length items

-- the buffer is too small for the items, and stays; their number is told
pub record IsTooSmall {X : Type 0} (items was is : List X) (needed : ℕ) : Type 0 where
  pub longer : length was < length items
  pub stays : is ≡ was
  pub told : needed ≡ length items

-- the items are put into the buffer, if there is room
abbrev pub Fills : {X : Type 0} → (items was is : List X) → (needed : ℕ) → Result (Unit {0}) Fault → Type 0
Fills items was is needed (Ok _) = IsFilled items was is needed
Fills items was is needed (Err NoRoom) = IsTooSmall items was is needed
Fills items was is needed (Err _) = ⊥

-- buffer and length stay
abbrev pub LeavesBuffer : {X : Type 0} → (was is : List X) → (before needed : ℕ) → Type 0
LeavesBuffer was is before needed = (is ≡ was) × (needed ≡ before)

-- the boxes are put into the buffer, if there is room, and whether a shown value is Overflow is told; it is wrong where
-- the page is not laid out
abbrev pub FillsBoxes : (was is : List ℕ) → (before needed : ℕ) → OpenPage → Result (Unit {0}) Fault → Type 0
FillsBoxes was is before needed p (Ok _) =
    IsLaidOut p.page × (overflows_on p.page ≡ false) × IsFilled (boxes_on p.page) was is needed
FillsBoxes was is before needed p (Err Overflow) =
    IsLaidOut p.page × (overflows_on p.page ≡ true) × IsFilled (boxes_on p.page) was is needed
FillsBoxes was is before needed p (Err NoRoom) =
    IsLaidOut p.page × IsTooSmall (boxes_on p.page) was is needed
FillsBoxes was is before needed p (Err OutOfMemory) = LeavesBuffer was is before needed
FillsBoxes was is before needed p (Err Wrong) = ¬ (IsLaidOut p.page) × LeavesBuffer was is before needed
FillsBoxes was is before needed p (Err _) = ⊥

-- what a call comes to that puts something of a page into a buffer: where there is no such page, buffer and length stay
abbrev pub AsksFor : ContextState → (page : ℕ) → (Comes : OpenPage → Result (Unit {0}) Fault → Type 0)
    → (Leaves : Type 0) → Result (Unit {0}) Fault → Type 0
AsksFor c page Comes Leaves done = Asks c page Comes done × MatchOption (page_of c page) Leaves (λ _. Unit {0})

-- the instances that the last relayout touched are put into the buffer, if there is room
abbrev pub FillsTouched : (was is : List ℕ) → (needed : ℕ) → OpenPage → Result (Unit {0}) Fault → Type 0
FillsTouched was is needed p done = Fills p.touched was is needed done
