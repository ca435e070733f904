use Rattle.std.proofs.Common.{◌≡◌, ℕ, ◌*◌, ◌<◌, get_or, length}
use Rattle.ftl_model.specs.layout.Tree.{size}
use Rattle.ftl_cursors.specs.classes.ClassSets.{HasClass, block_of, class_of}
use Rattle.ftl_cursors.proofs.classes.blocks.class_blocks.Given as goal

abbrev pub invariant-loop-block : goal.invariant-loop-block
invariant-loop-block l = record {
  count : length l.sets.items ≡ l.block;
  classes : (n : ℕ) → n < size l.tree.tree → n < 64 * l.block
      → HasClass (get_or l.sets.items (block_of n) 0) (class_of l.tree.tree n);
}
