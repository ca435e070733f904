-- A work of four items: the first comes before two, and both of these before the last.
use Rattle.std.specs.Prelude.{ℕ, pos, negsuc, List, [], ◌∷◌}
use Rattle.ftl_model.specs.layout.Values.{number}
use Rattle.ftl_cells.specs.shared.Work.{Meaning, ItemMeaning}
use Rattle.ftl_cells.specs.declared.shared.kind.CellKind.TheVariants.{Given, Target}

-- an item of one step
abbrev pub item_of : ℕ → List ℕ → ℕ → List ℕ → ItemMeaning
item_of preds next target reads = record
    { preds = preds; next = next; steps = record { target = target; reads = reads } ∷ [] }

-- cell 1 is cell 0 and 1, cell 2 is twice cell 1, cell 3 is cell 1 less 10, and cell 4 is cell 2 and cell 3
abbrev pub diamond : Meaning
diamond = record {
  kinds = Given ∷ Target ∷ Target ∷ Target ∷ Target ∷ [];
  items = item_of 0 (1 ∷ 2 ∷ []) 1 (0 ∷ []) ∷ item_of 1 (3 ∷ []) 2 (1 ∷ [])
      ∷ item_of 1 (3 ∷ []) 3 (1 ∷ []) ∷ item_of 2 [] 4 (2 ∷ 3 ∷ []) ∷ [];
  solution = number (pos 7) ∷ number (pos 8) ∷ number (pos 16) ∷ number (negsuc 1) ∷ number (pos 14) ∷ [];
  max_reads = 2;
  max_stack = 0;
}
