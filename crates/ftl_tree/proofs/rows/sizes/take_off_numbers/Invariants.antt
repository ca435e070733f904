use Rattle.std.proofs.Common.{◌≡◌, ◌-◌, ◌<◌, ◌≤◌, ℕ, length, slice_index_or}
use Rattle.ftl_tree.proofs.rows.sizes.take_off_numbers.Given as goal

-- the numbers of those before this node were taken off
abbrev pub invariant-loop-node : goal.invariant-loop-node
invariant-loop-node l = record {
  count : length l.ends ≡ length l.initial.ends;
  done : (n : ℕ) → n < l.node → slice_index_or l.ends n 0 ≡ slice_index_or l.initial.ends n 0 - n;
  rest : (n : ℕ) → l.node ≤ n → slice_index_or l.ends n 0 ≡ slice_index_or l.initial.ends n 0;
}
