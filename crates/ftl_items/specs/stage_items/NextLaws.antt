-- Items hand on to later ones alone.
use Rattle.std.specs.Prelude.{◌≡◌, ℕ, ◌<◌, true, length}
use Rattle.ftl_cells.specs.shared.Count.{Counts}
use Rattle.ftl_model.specs.layout.AttributeGrammar.{AttributeGrammar}
use Rattle.ftl_model.specs.layout.Tree.{Forest}
use Rattle.ftl_order.specs.orders.Schedule.{Schedule}
use Rattle.ftl_items.specs.stage_items.Items.{is_next, passes_of, predecessors}
use Rattle.ftl_items.specs.stage_items.StageWork.{item_at, stage_items}

-- the item of the first number hands on to that of the second
abbrev pub HandsOn : AttributeGrammar → Schedule → Forest → (grain stage : ℕ) → ℕ → ℕ → Type 0
HandsOn g s t grain stage i k =
    is_next (passes_of s stage) (item_at g s t grain stage i) (item_at g s t grain stage k) ≡ true

-- an item hands on to later ones alone
abbrev pub NextIsLater : AttributeGrammar → Schedule → Forest → (grain stage : ℕ) → Type 0
NextIsLater g s t grain stage =
    (i k : ℕ) → i < length (stage_items g s t grain stage) → k < length (stage_items g s t grain stage)
    → HandsOn g s t grain stage i k → i < k

-- an item has as many predecessors as earlier items hand on to it
abbrev pub PredecessorsAreCounted : AttributeGrammar → Schedule → Forest → (grain stage : ℕ) → Type 0
PredecessorsAreCounted g s t grain stage =
    (i : ℕ) → i < length (stage_items g s t grain stage)
    → Counts (λ k. HandsOn g s t grain stage k i) i
    (length (predecessors (passes_of s stage) (stage_items g s t grain stage) i))
