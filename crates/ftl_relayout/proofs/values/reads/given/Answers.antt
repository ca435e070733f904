-- The cell is that of the one occurrence that is read.
use Rattle.std.proofs.Common.{◌<◌, arith, ◌∙◌, ap, Some, length}
use Rattle.std.proofs.lemmas.List.{get_or_default}
use Rattle.ftl_model.specs.layout.Values.{overflow}
use Rattle.ftl_deps.specs.parts.RuleParts.{read_meant}
use Rattle.ftl_model.specs.layout.AttributeGrammar.{occurrences}
use Rattle.ftl_visit.specs.step_reads.StepReads.{kids_in}
use Rattle.ftl_relayout.proofs.values.Loading.{one_given, one_within}
use Rattle.ftl_relayout.proofs.values.reads.given.Goals as goal

pub bounds-values-cell : goal.bounds-values-cell
bounds-values-cell c =
    let t = c.args.tree.now in
    let w =
    one_within t c.args.node c.node_count-nodes.ensures.is_tree c.in-Some.cell
    (occurrences (kids_in t c.args.node) c.args.at_hand (read_meant c.args.read)) c.in-Some.ensures.cell
    c.requires.there.seen in
    let e = c.requires.values in
    omega (arith, w, e)

pub returns-in-Some : goal.returns-in-Some
returns-in-Some c =
    let t = c.args.tree.now in
    let os = occurrences (kids_in t c.args.node) c.args.at_hand (read_meant c.args.read) in
    let w = one_within t c.args.node c.node_count-nodes.ensures.is_tree c.in-Some.cell os c.in-Some.ensures.cell
    c.requires.there.seen in
    let e = c.requires.values in
    let below : c.in-Some.cell < length c.args.values.now = omega (arith, w, e) in
    record {
      given =
          ap Some
          (c.index-values-cell.is
          ∙ get_or_default c.args.values.now c.in-Some.cell c.index-values-cell.result overflow below)
          ∙ one_given t c.args.node c.in-Some.cell os c.args.values.now c.in-Some.ensures.cell;
    }
