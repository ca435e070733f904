-- Items in blocks of 64 that follow one another, and blocks in which no item has a step.
use Rattle.std.specs.Prelude.{◌≡◌, ℕ, ◌/◌, ◌<◌, bit_and, length, slice_index}
use Rattle.ftl_cells.specs.shared.Work.{Meaning, item_total, step_total}
use Rattle.ftl_lots.specs.declared.filling.blocks.ItemBlocks.{ItemBlocks}

-- the number of the block of an item
abbrev pub block_of : (item : ℕ) → ℕ
block_of item = item / 64

-- the item's block has a set, and this has none of the wanted bits
pub record IsPassedOver (b : ItemBlocks) (item : ℕ) : Type 0 where
  pub known : block_of item < length b.sets.now
  pub none : bit_and (slice_index b.sets.now (block_of item)) b.wanted ≡ 0

-- no item of the work that is passed over has a step
abbrev pub AreIdle : Meaning → ItemBlocks → Type 0
AreIdle m b = (item : ℕ) → item < item_total m → IsPassedOver b item → step_total m item ≡ 0
