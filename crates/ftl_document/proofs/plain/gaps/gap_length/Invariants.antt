use Rattle.std.proofs.Common.{◌≡◌, ℕ, ◌-◌, ◌≤◌, length, drop}
use Rattle.std.specs.Str.{IsUtf8, IsCharBoundary}
use Rattle.ftl_document.specs.plain.Plain.{plain_tokens}
use Rattle.ftl_document.proofs.plain.gaps.gap_length.Given as goal

abbrev pub invariant-loop-at : goal.invariant-loop-at
invariant-loop-at l = record {
  within : l.at ≤ length l.bytes;
  boundary : IsUtf8 l.bytes → IsCharBoundary l.bytes l.at;
  same : (greatest : ℕ) → plain_tokens greatest l.bytes ≡ plain_tokens greatest (drop l.at l.bytes);
}

abbrev pub decreases-loop-at : goal.decreases-loop-at
decreases-loop-at l = length l.bytes - l.at
