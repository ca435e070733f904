use Rattle.ftl_noncircular.specs.search.Pairs.{IsPairListOf, IsLonger, IsNotedFrom}
use Rattle.ftl_noncircular.proofs.search.notes.note_from.Given as goal

abbrev pub ghost-put : goal.ghost-put
ghost-put g a = g.g

abbrev pub invariant-loop-place : goal.invariant-loop-place
invariant-loop-place g l = record {
  list : IsPairListOf g.g l.list;
  longer : IsLonger l.initial.list l.list;
  noted : IsNotedFrom g.g l.shape l.class l.walks l.list.has l.start l.place;
}
