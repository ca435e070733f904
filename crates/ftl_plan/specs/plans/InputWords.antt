-- Words of cells that become those before the first stage, input by input.
use Rattle.std.specs.Prelude.{◌≡◌, ℕ, List, Contains, length, map, slice_index_or}
use Rattle.std.specs.List.{range_with_len}
use Rattle.ftl_items.specs.stage_items.WordLaws.{first_words}
use Rattle.ftl_model.specs.layout.AttributeGrammar.{AttributeGrammar, class_inputs}
use Rattle.ftl_model.specs.layout.Path.{Path, class_at}
use Rattle.ftl_model.specs.layout.Solves.{instance_of}
use Rattle.ftl_model.specs.layout.Table.{instance_number}
use Rattle.ftl_model.specs.layout.Tree.{Forest}

-- the inputs of each class, by number
abbrev pub inputs_by_class : AttributeGrammar → List (List ℕ)
inputs_by_class g = map (class_inputs g) (range_with_len 0 g.class_count)

-- the cell of this number holds its word before the first stage
abbrev pub HoldsItsFirst : AttributeGrammar → Forest → (words : List ℕ) → (cell : ℕ) → Type 0
HoldsItsFirst g t words cell = slice_index_or words cell 0 ≡ slice_index_or (first_words g t) cell 0

-- these attributes of the node at a path got their words; no cell that held its word lost it
pub record AreSet (g : AttributeGrammar) (t : Forest) (p : Path) (attributes old new : List ℕ) : Type 0 where
  pub count : length new ≡ length old
  pub kept : (cell : ℕ) → HoldsItsFirst g t old cell → HoldsItsFirst g t new cell
  pub set : (a : ℕ) → Contains attributes a → HoldsItsFirst g t new (instance_number g t (instance_of p a))

-- the inputs of the node at a path got their words
abbrev pub AreInputsSet : AttributeGrammar → Forest → Path → (old new : List ℕ) → Type 0
AreInputsSet g t p old new = AreSet g t p (class_inputs g (class_at t p)) old new
