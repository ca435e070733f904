use Rattle.ftl_nest_check.specs.stages.Nested.{nests_of}
use Rattle.ftl_run.proofs.calls.Solved.{solved_by}
use Rattle.ftl_run.proofs.calls.solving.is_solved.Goals as goal

pub returns : goal.returns
returns c =
    let p = c.args.plan.now in
    record {
      solved =
          solved_by c.args.tree.now p.checked p.tree (nests_of p.schedule) c.requires.grammar c.requires.tree
          c.stage_count-can_be_planned.ensures.plan c.flat_schedules.ensures.flat c.solution_solves.ensures.ordered
          c.values_are_in_range.ensures.in_range c.reads_end_by_rank.ensures.reads_end c.args.words.now c.requires.held;
    }
