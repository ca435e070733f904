use Rattle.std.proofs.Common.{List, ℕ, ◌+◌, arith, length, ap, ap₂, ◌∙◌}
use Rattle.ftl_visit.specs.declared.visits.visit_op.VisitOp.{VisitOp}
use Rattle.ftl_visit.specs.passes.Runs.{run}
use Rattle.ftl_visit.proofs.passes.RunLemmas.{run_is, run_known}
use Rattle.ftl_visit.proofs.passes.pass_visits.PassVisits.visit.Goals as goal

pub bounds-starts-class : goal.bounds-starts-class
bounds-starts-class c =
    let i = c.self.inside in
    let known = run_known i.starts.items i.ops.items c.args.self.now c.args.class c.self.view_is c.requires.class in
    omega (arith, ap length c.as_slice-starts.ensures.value)

pub bounds-starts-class-2 : goal.bounds-starts-class-2
bounds-starts-class-2 c =
    let i = c.self.inside in
    let known = run_known i.starts.items i.ops.items c.args.self.now c.args.class c.self.view_is c.requires.class in
    omega (arith, ap length c.as_slice-starts.ensures.value)

pub part_of-requires-clause-order : goal.part_of-requires-clause-order
part_of-requires-clause-order c =
    let i = c.self.inside in
    rw c.as_slice-starts.ensures.value
    (c.self.invariant.rising c.args.class
    (run_known i.starts.items i.ops.items c.args.self.now c.args.class c.self.view_is c.requires.class))

pub part_of-requires-clause-within : goal.part_of-requires-clause-within
part_of-requires-clause-within c =
    let i = c.self.inside in
    rw (c.as_slice-starts.ensures.value, c.as_slice.ensures.value)
    (c.self.invariant.within (c.args.class + 1)
    (run_known i.starts.items i.ops.items c.args.self.now c.args.class c.self.view_is c.requires.class))

pub returns : goal.returns
returns c =
    let i = c.self.inside in
    record {
      visit =
          c.part_of.ensures.part
          ∙ ap₂ (λ (s : List ℕ) (xs : List VisitOp). run s xs c.args.class) c.as_slice-starts.ensures.value
          c.as_slice.ensures.value
          ∙ run_is i.starts.items i.ops.items c.args.self.now c.args.class c.self.view_is c.requires.class;
    }
