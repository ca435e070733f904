use Rattle.std.proofs.Common.{ℕ, ◌<◌, Contains, get_or}
use Rattle.ftl_edits.specs.declared.meaning.types.Edit.{Edit}
use Rattle.ftl_relayout.specs.relayouter.Due.{IsDueBy}
use Rattle.ftl_relayout.proofs.relayouter.due.add_due.Given as goal

-- just what is due by the edits before this one waits
abbrev pub invariant-loop-edit : goal.invariant-loop-edit
invariant-loop-edit l = record {
  all : (m : ℕ) (d : Edit) → m < l.edit-index → (k : ℕ) → IsDueBy l.readers l.values (get_or l.edits m d) k
      → Contains l.waiting.keys k;
  only : (k : ℕ) → Contains l.waiting.keys k → (e : Edit) × IsDueBy l.readers l.values e k;
}
