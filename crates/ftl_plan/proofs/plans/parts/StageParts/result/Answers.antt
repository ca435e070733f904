use Rattle.std.proofs.Common.{◌∙◌, ap, length, map, sym}
use Rattle.ftl_cells.specs.shared.Work.{solution_at}
use Rattle.ftl_plan.specs.plans.StageParts.{meaning_of}
use Rattle.ftl_plan.proofs.plans.Bridge.{reads_are, target_is}
use Rattle.ftl_plan.proofs.plans.parts.StageParts.result.Goals as goal

pub value-requires-clause-step : goal.value-requires-clause-step
value-requires-clause-step c = c.step.ensures.step.is_step

pub value-requires-clause-reads : goal.value-requires-clause-reads
value-requires-clause-reads c =
    c.requires.reads
    ∙ sym
    (ap length
    (reads_are c.args.self.now c.requires.fit c.args.item c.args.step c.step.result c.requires.step
    c.step.ensures.step))

pub returns : goal.returns
returns c =
    let w = c.args.self.now in
    let x = c.step.result in
    record {
      value = λ solved.
          c.value.ensures.value
          (solved
          ∙ sym
          (ap (map (solution_at (meaning_of w)))
          (reads_are w c.requires.fit c.args.item c.args.step x c.requires.step c.step.ensures.step)))
          ∙ ap (solution_at (meaning_of w))
          (target_is w c.requires.fit c.args.item c.args.step x c.requires.step c.step.ensures.step);
      room = c.value.ensures.room;
    }
