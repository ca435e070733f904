-- Lots of words in the slots of a table.
use Rattle.std.specs.Prelude.{◌≡◌, ℕ, ◌+◌, ◌^◌, ◌<◌, List, [], ◌∷◌, length, slice_index, slice_index_or}
use mathlib.Core.Option.{Option, some}
use lib.ListN.{get_elem?}
use Rattle.atomic_table.specs.Table.{Me}
use Rattle.ftl_cells.specs.shared.Work.{Meaning, IsLawfulWork, cell_total, item_total}
use Rattle.ftl_cells.specs.work_phases.Phases.{CanTake}
use Rattle.ftl_cells.specs.declared.work_phases.phase.Phases.{Phases}
use Rattle.ftl_lots.specs.declared.filling.blocks.ItemBlocks.{ItemBlocks}
use Rattle.ftl_lots.specs.declared.filling.spans.Span.{Span}
use Rattle.ftl_lots.specs.filling.Blocks.{AreIdle}
use Rattle.ftl_lots.specs.filling.Filled.{HoldMade, IsOfFirst, IsOfFirstOrRanges, range_first}
use Rattle.ftl_lots.specs.filling.Spans.{AreSpans}
use Rattle.ftl_lots.specs.words.Parts.{Part}

-- a work and its phases
pub record Wanted : Type 0 where
  pub of : Meaning
  pub phases : Phases

abbrev pub wanted : Meaning → Phases → Wanted
wanted m t = record { of = m; phases = t }

-- how many lots there are: one for each range
abbrev pub lot_total : Wanted → ℕ
lot_total w = w.phases.ranges

-- the first cell of a lot, or how many cells there are where that is less
abbrev pub lot_first : Wanted → ℕ → ℕ
lot_first w k = range_first w.phases.size (cell_total w.of) k

-- the part has the words of the lot's cells, once the first phase is filled
pub record IsBegun (w : Wanted) (k : ℕ) (p : Part) : Type 0 where
  pub count : lot_first w k + length p.items ≡ lot_first w (k + 1)
  pub made : HoldMade w.of (IsOfFirst w.phases) p.items (lot_first w k)

-- the parts are those of the lots from this one on, begun
abbrev pub AreBegunFrom : Wanted → (lot : ℕ) → List Part → Type 0
AreBegunFrom w lot parts = (k : ℕ) (d : Part) → k < length parts → IsBegun w (lot + k) (slice_index_or parts k d)

-- the part has the words of the lot's cells, once the first phase and the lot's range are filled
pub record IsFilled (w : Wanted) (k : ℕ) (p : Part) : Type 0 where
  pub count : lot_first w k + length p.items ≡ lot_first w (k + 1)
  pub made : HoldMade w.of (IsOfFirstOrRanges w.phases k 1) p.items (lot_first w k)

-- the parts are those of the lots from this one on, filled
abbrev pub AreFilledFrom : Wanted → (lot : ℕ) → List Part → Type 0
AreFilledFrom w lot parts = (k : ℕ) (d : Part) → k < length parts → IsFilled w (lot + k) (slice_index_or parts k d)

-- of each lot: where its state is 0 its part is at home and begun, and where it is 2 it is at home and filled
pub record IsKept (w : Wanted) (states : List ℕ) (homes : List (Option Part)) : Type 0 where
  pub count : length states ≡ lot_total w
  pub free : (k : ℕ) → k < lot_total w → slice_index states k ≡ 0
      → (p : Part) × (get_elem? homes k ≡ some (some p)) × IsBegun w k p
  pub full : (k : ℕ) → k < lot_total w → slice_index states k ≡ 2
      → (p : Part) × (get_elem? homes k ≡ some (some p)) × IsFilled w k p

-- what a seat knows, and the slot that it holds
abbrev pub Known : Type 0
Known = Me Part Wanted

-- the seat holds this lot alone, and of its part this is true
abbrev pub Has : ℕ → (Part → Type 0) → Known → Type 0
Has k is me = (p : Part) × (me.1 ≡ (k, p) ∷ []) × is p

-- what a take tells that found this state
abbrev pub TakeTold : Wanted → ℕ → ℕ → Known → Type 0
TakeTold w k n me = (n ≡ 0 → Has k (IsBegun w k) me) × (n ≡ 2 → Has k (IsFilled w k) me)

-- each range's items lie in its span, and the items of blocks that are passed over have no step
pub record CanFillLots (m : Meaning) (t : Phases) (spans : List Span) (blocks : ItemBlocks) : Type 0 where
  pub lawful : IsLawfulWork m
  pub taken : CanTake m t
  pub narrow : cell_total m < 2 ^ 32
  pub count : length spans ≡ t.ranges
  pub spanned : AreSpans t (item_total m) spans
  pub idle : AreIdle m blocks
