use Rattle.std.proofs.Common.{length, ap, ◌∙◌, sym}
use Rattle.std.proofs.lemmas.List.{length-map}
use Rattle.ftl_deps.specs.reads.Meant.{meant}
use Rattle.ftl_model.specs.layout.AttributeGrammar.{Parts}
use Rattle.ftl_model.specs.layout.Path.{node_at}
use Rattle.ftl_model.specs.layout.Solves.{seen_from}
use Rattle.ftl_visit.specs.step_reads.StepReads.{reads_here}
use Rattle.ftl_order.specs.steps.Steps.{rule_at}
use Rattle.ftl_step_value.proofs.cells.StepRules.{seen_at, step_reads}
use Rattle.ftl_step_value.proofs.cells.counts.read_count.Goals as goal

pub returns : goal.returns
returns c =
    let t = c.args.tree.now in
    let g = meant t.checked in
    let x = c.args.step in
    let p = node_at t.tree x.node in
    record {
      count =
          c.read_count.ensures.count
          ∙ ap (λ (parts : Parts). reads_here t x.node parts x.kid) c.step_parts-parts.ensures.parts
          ∙ sym
          (ap length (step_reads g c.requires.sound.law t.tree c.node_count-nodes.ensures.is_tree x c.requires.step)
          ∙ length-map (seen_at g t.tree (rule_at g x.rule) p x.kid) (seen_from p));
    }
