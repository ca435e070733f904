-- Trees that are laid out anew.
use Rattle.std.specs.Prelude.{◌≡◌, ℕ, List, length}
use Rattle.ftl_meaning.specs.faults.Checked.{CheckedGrammar}
use Rattle.ftl_model.specs.layout.Tree.{Forest}
use Rattle.ftl_model.specs.layout.Values.{Value}
use Rattle.ftl_relayout.specs.relaid.Relaid.{IsRelaid}

-- the values solve the changed tree, and so many instances are touched
abbrev pub IsRelaidBy : CheckedGrammar → Forest → (old values : List Value) → (count : ℕ) → Type 0
IsRelaidBy c u old values count = (touched : List ℕ) × (count ≡ length touched) × IsRelaid c u old values touched
