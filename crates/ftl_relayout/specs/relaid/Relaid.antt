-- What laying out a tree anew after edits gives.
use Rattle.std.specs.Prelude.{ℕ, List}
use Rattle.ftl_deps.specs.reads.Meant.{meant}
use Rattle.ftl_meaning.specs.faults.Checked.{CheckedGrammar}
use Rattle.ftl_model.specs.layout.Table.{SolvesList, value_in}
use Rattle.ftl_model.specs.layout.Tree.{Forest}
use Rattle.ftl_model.specs.layout.Values.{Value}
use Rattle.ftl_edits.specs.declared.meaning.types.Edit.{Edit}
use Rattle.ftl_relayout.specs.laws.Edits.{with_edits}
use Rattle.ftl_relayout.specs.laws.Relayout.{AreTouched}
use Rattle.ftl_relayout.specs.laws.TreeNets.{cost_at, instance_at}
use Rattle.ftl_relayout.specs.queue.Trails.{total_cost}

-- the tree after edits, in their order
abbrev pub edited_tree : CheckedGrammar → Forest → List Edit → Forest
edited_tree c t edits = with_edits (meant c) t edits

-- These values solve the changed tree, and these are the numbers of the instances that are touched: that are computed
-- and have a read whose value is another one than before.
pub record IsRelaid (c : CheckedGrammar) (u : Forest) (old values : List Value) (numbers : List ℕ) : Type 0 where
  pub solves : SolvesList (meant c) u values
  pub touched : AreTouched (meant c) u (value_in (meant c) u old) (value_in (meant c) u values) numbers

-- what computing these instances anew costs: 1 for each, and for a fold 1 more for each kid
abbrev pub relayout_cost : CheckedGrammar → Forest → (numbers : List ℕ) → ℕ
relayout_cost c u numbers = total_cost (λ n. cost_at (meant c) u (instance_at (meant c) u n)) numbers
