-- Each read is loaded into its place.
use Rattle.std.proofs.Common.{◌≡◌, ◌<◌, length, map, take, take_all, get_or, sym, ap, ◌∙◌, arith}
use Rattle.std.proofs.lemmas.Simd.{map-map}
use Rattle.std.proofs.lemmas.List.Elements.{Contains-get_or}
use Rattle.ftl_model.proofs.lists.Rising.{map_has}
use Rattle.ftl_deps.specs.declared.parts.part_read.PartRead.{PartRead}
use Rattle.ftl_deps.specs.declared.parts.part_read.PartRead.TheVariants as reads
use Rattle.ftl_deps.specs.parts.RuleParts.{read_meant}
use Rattle.ftl_meaning.specs.grammars.Meaning.{value_seen}
use Rattle.ftl_model.specs.layout.AttributeGrammar.{Read, occurrences}
use Rattle.ftl_visit.specs.step_reads.StepReads.{kids_in}
use Rattle.ftl_relayout.specs.values.PartSites.{value_at}
use Rattle.ftl_relayout.proofs.values.Loading.{row_more}
use Rattle.ftl_relayout.proofs.values.reads.load.Goals as goal

pub given-requires-clause-there : goal.given-requires-clause-there
given-requires-clause-there c =
    let rs = c.args.reads.now in
    let k = c.loop-place.place in
    let none : PartRead = reads.Own 0 in
    let below : k < length rs = omega arith in
    c.requires.there (read_meant (get_or rs k none)) (map_has read_meant rs (get_or rs k none) (Contains-get_or rs k none below))

pub returns : goal.returns
returns c =
    let t = c.args.tree.now in
    let rs = c.args.reads.now in
    let n = c.loop-place.place in
    let f = λ (r : Read). value_seen (value_at t c.args.values.now c.args.node)
    (occurrences (kids_in t c.args.node) c.args.at_hand r) in
    let done : length rs ≡ n = omega arith in
    record {
      given =
          ap (λ m. take m c.loop-place.row) done
          ∙ c.loop-place.invariant
          ∙ ap (map (λ r. f (read_meant r))) (take_all n rs (omega arith))
          ∙ sym (map-map f read_meant rs);
    }

pub loop-place-preserved : goal.loop-place-preserved
loop-place-preserved c =
    let t = c.args.tree.now in
    let rs = c.args.reads.now in
    let k = c.loop-place.place in
    let none : PartRead = reads.Own 0 in
    let room = c.requires.room in
    let same = c.loop-place.auto.row in
    row_more
    (λ (r : PartRead). value_seen (value_at t c.args.values.now c.args.node)
    (occurrences (kids_in t c.args.node) c.args.at_hand (read_meant r)))
    rs c.loop-place.row k none c.given.result (omega arith) (omega (arith, room, same)) c.loop-place.invariant
    c.given.ensures.given
