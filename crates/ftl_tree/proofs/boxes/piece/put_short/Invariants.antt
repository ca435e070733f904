use Rattle.std.proofs.Common.{◌≡◌, ◌+◌, ◌++◌, take}
use Rattle.ftl_tree.proofs.boxes.piece.put_short.Given as goal

-- the bytes so far
abbrev pub invariant-loop-k : goal.invariant-loop-k
invariant-loop-k l = take (l.end + l.k) l.bytes ≡ take l.end l.fn.bytes ++ take l.k l.short
