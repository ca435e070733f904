use Rattle.std.proofs.Common.{◌∙◌}
use Rattle.ftl_plan.specs.plans.StageParts.{grain_of, grammar_of, schedule_of, tree_of}
use Rattle.ftl_plan.proofs.plans.Bridge.{few_passes, items_are}
use Rattle.ftl_plan.proofs.plans.parts.StageParts.items.Goals as goal

pub returns : goal.returns
returns c =
    let w = c.args.self.now in
    record {
      count = c.item_count.ensures.count ∙ items_are w c.requires.fit;
      lawful =
          c.stages_are_lawful.ensures.lawful (grammar_of w) (schedule_of w) (tree_of w) c.requires.fit.can (grain_of w)
          w.stage w.programs.now.max_stack (few_passes w c.requires.fit);
    }
