use Rattle.std.proofs.Common.{◌≡◌, ◌+◌, ◌-◌, length}
use Rattle.ftl_model.specs.layout.AttributeGrammar.{AttributeGrammar}
use Rattle.ftl_model.specs.layout.Tree.{Forest}
use Rattle.ftl_tree.specs.rows.Rows.{AreTreeRows}
use Rattle.ftl_tree.proofs.rows.Ends.{Ends}
use Rattle.ftl_tree.proofs.rows.sizes.hand_on_ends.Given as goal

-- the last nodes were handed on
abbrev pub invariant-loop-back : goal.invariant-loop-back
invariant-loop-back l = record {
  count : length l.ends ≡ length l.rows;
  ends : (g : AttributeGrammar) (t : Forest) → AreTreeRows g t l.rows → Ends t l.ends (length l.rows + 1 - l.back);
}
