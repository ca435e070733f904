-- Between which items those of a phase lie.
use Rattle.std.specs.Prelude.{◌≡◌, ℕ, ◌<◌, ◌≤◌, List, length, slice_index_or}
use Rattle.ftl_cells.specs.work_phases.Phases.{phase_at}
use Rattle.ftl_cells.specs.declared.work_phases.phase.Phase.{Phase}
use Rattle.ftl_cells.specs.declared.work_phases.phase.Phase.TheVariants.{Range}
use Rattle.ftl_cells.specs.declared.work_phases.phase.Phases.{Phases}
use Rattle.ftl_lots.specs.declared.filling.spans.Span.{Span}

-- of the first so many items, those of this phase lie in the span
pub record IsSpanOf (t : Phases) (count : ℕ) (x : Phase) (span : Span) : Type 0 where
  pub below : span.to ≤ count
  pub each : (i : ℕ) → i < count → phase_at t i ≡ x → (span.from ≤ i) × (i < span.to)

-- of the first so many items, those of each range lie in its span
abbrev pub AreSpans : (t : Phases) (count : ℕ) → List Span → Type 0
AreSpans t count spans = (b : ℕ) (d : Span) → b < length spans → IsSpanOf t count (Range b) (slice_index_or spans b d)
