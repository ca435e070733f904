-- There is an answer for each read.
use Rattle.std.proofs.Common.{List, Option, ap, arith, length, map, sym, take, ◌∙◌, get_or, None}
use Rattle.std.proofs.lemmas.List.{length-map}
use Rattle.ftl_deps.specs.parts.RuleParts.{read_meant}
use Rattle.ftl_model.specs.layout.Values.{Value}
use Rattle.ftl_visit.specs.rule_code.Machine.{there_in}
use Rattle.ftl_visit.specs.step_reads.StepReads.{kids_in}
use Rattle.ftl_step_value.proofs.value.SpreadLaws.{length-spread, there_spread}
use Rattle.ftl_step_value.proofs.value.values.SparseReads.read.Goals as goal

pub given-requires-clause-place : goal.given-requires-clause-place
given-requires-clause-place c =
    let i = c.self.inside in
    let rs = map read_meant i.reads.now in
    let same = ap length c.self.view_is in
    let long = length-spread (kids_in i.tree.now i.node) i.at_hand rs i.values.now in
    let reads = length-map i.reads.now read_meant in
    let known = c.requires.place in
    omega (arith, same, long, reads, known)

pub given-requires-clause-there : goal.given-requires-clause-there
given-requires-clause-there c =
    let i = c.self.inside in
    let rs = map read_meant i.reads.now in
    let kids = kids_in i.tree.now i.node in
    let long = c.self.invariant.long in
    c.requires.there
    ∙ ap (λ (xs : List (Option Value)). there_in (take c.args.place xs)) (sym c.self.view_is)
    ∙ there_spread kids i.at_hand rs i.values.now c.args.place (omega (arith, long))

pub returns : goal.returns
returns c = record { value = c.given.ensures.given ∙ ap (λ list. get_or list c.args.place None) c.self.view_is }
