use Rattle.ftl_schedule.specs.stages.Stages.{stages_of}
use Rattle.ftl_scheduler.proofs.largest_sets.Marks.{lacking}
use Rattle.ftl_scheduler.proofs.outcomes.PassChains.{IsPassing}
use Rattle.ftl_scheduler.proofs.outcomes.passes.find_passes.Given as goal

abbrev pub invariant-loop-stages : goal.invariant-loop-stages
invariant-loop-stages l = IsPassing l.tables l.all (stages_of (record { stages = l.stages.items })) l.done

abbrev pub decreases-loop-stages : goal.decreases-loop-stages
decreases-loop-stages l = lacking l.done
