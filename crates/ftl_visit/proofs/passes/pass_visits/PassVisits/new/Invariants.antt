use Rattle.ftl_deps.specs.reads.Meant.{meant}
use Rattle.ftl_visit.proofs.passes.MadeVisits.{AreMade}
use Rattle.ftl_visit.proofs.passes.pass_visits.PassVisits.new.Given as goal

abbrev pub invariant-loop-class : goal.invariant-loop-class
invariant-loop-class l = AreMade (meant l.index) l.kind l.attrs l.class l.starts.items l.ops.items
