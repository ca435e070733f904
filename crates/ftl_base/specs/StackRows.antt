-- The entries that stand in the rows of a stack: at each place a value and a truth, and a mark that says which of them
-- is the entry.
use Rattle.std.specs.Prelude.{◌≤◌, ◌≡◌, Bool, true, false, List, [], ◌∷◌, length, take}
use Rattle.ftl_model.specs.layout.Values.{Value}
use Rattle.ftl_base.specs.declared.truth.Truth.{Truth}
use Rattle.ftl_base.specs.declared.stack.Entry.{Entry}
use Rattle.ftl_base.specs.declared.stack.Entry.TheVariants.{Number, Test}
use Rattle.ftl_base.specs.declared.stack.CodeStack.TheInside.{Inside}
use Rattle.ftl_base.specs.Stacked.{Stacked}

-- the entry at one place
abbrev pub entry_of : (is_truth : Bool) → Value → Truth → Entry
entry_of true v t = Test t
entry_of false v t = Number v

-- the entries at all places
abbrev pub entries_of : (marks : List Bool) → List Value → List Truth → List Entry
entries_of (mark ∷ marks) (v ∷ values) (t ∷ truths) = entry_of mark v t ∷ entries_of marks values truths
entries_of _ _ _ = []

-- what stands in the three rows of a stack, at all places
abbrev pub row_entries : Inside → List Entry
row_entries s = entries_of s.marks.items s.values.items s.truths.items

-- the stack that three rows hold: the entries below its height
abbrev pub stacked_of : Inside → Stacked
stacked_of s = record { room = s.depth; entries = take s.height (row_entries s) }

-- each row has room for all entries, and no more stand there
pub record AreStackRows (s : Inside) : Type 0 where
  pub height : s.height ≤ s.depth
  pub values : length s.values.items ≡ s.depth
  pub truths : length s.truths.items ≡ s.depth
  pub marks : length s.marks.items ≡ s.depth
