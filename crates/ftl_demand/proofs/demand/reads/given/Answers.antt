-- A read is of nothing, or of one instance, whose word is 0 or that of its value.
use Rattle.std.proofs.Common.{Some, arith, get_or, ap, ◌∙◌}
use Rattle.ftl_deps.specs.parts.RuleParts.{read_meant}
use Rattle.ftl_deps.specs.reads.Meant.{meant}
use Rattle.ftl_model.specs.layout.AttributeGrammar.{occurrences}
use Rattle.ftl_model.specs.layout.Values.{overflow}
use Rattle.ftl_order.proofs.orders.Instances.{number_within}
use Rattle.ftl_visit.specs.step_reads.StepReads.{kids_in}
use Rattle.ftl_demand.specs.demand.Sites.{instance_at}
use Rattle.ftl_demand.proofs.demand.Filled.{solution_value}
use Rattle.ftl_demand.proofs.demand.ReadValues.{one_given, one_there}
use Rattle.ftl_demand.proofs.demand.reads.given.Goals as goal

pub bounds-words-cell : goal.bounds-words-cell
bounds-words-cell c =
    let t = c.args.tree.now in
    let g = meant t.checked in
    let i = instance_at t c.in-Some.wanted in
    let valid = one_there t c.args.node i (occurrences (kids_in t c.args.node) c.args.at_hand (read_meant c.args.read))
    c.in-Some.ensures.seen c.requires.there.seen in
    let within = number_within g t.tree i.node i.attribute valid.0 valid.1 in
    let is = c.instance-cell.ensures.instance in
    let count = c.requires.words.count in
    omega (arith, within, is, count)

pub returns : goal.returns
returns c = record {
  given = λ values solved.
      let t = c.args.tree.now in
      let g = meant t.checked in
      let i = instance_at t c.in-Some.wanted in
      let cell = c.instance-cell.result in
      c.val_of.ensures.only (get_or values cell overflow) (solution_value g t.tree values solved cell)
      (c.requires.words.right values solved cell c.if-word-eq0.false)
      ∙ ap (λ n. Some (get_or values n overflow)) c.instance-cell.ensures.instance
      ∙ one_given t c.args.node i (occurrences (kids_in t c.args.node) c.args.at_hand (read_meant c.args.read)) values
      c.in-Some.ensures.seen;
}
