use Rattle.std.proofs.Common.{◌<◌, ℕ, length}
use Rattle.ftl_noncircular.specs.search.Pairs.{IsPairListOf, IsLonger, IsNotedFrom}
use Rattle.ftl_noncircular.specs.search.Shapes.{synthesized_of}
use Rattle.ftl_noncircular.proofs.search.notes.note.Given as goal

abbrev pub ghost-note_from : goal.ghost-note_from
ghost-note_from g a = g.g

abbrev pub invariant-loop-start : goal.invariant-loop-start
invariant-loop-start g l = record {
  list : IsPairListOf g.g l.list;
  longer : IsLonger l.initial.list l.list;
  noted :
      (j : ℕ) → j < l.start
      → IsNotedFrom g.g l.shape l.class l.walks l.list.has j (length (synthesized_of l.shape (g.g.interface l.class)));
}
