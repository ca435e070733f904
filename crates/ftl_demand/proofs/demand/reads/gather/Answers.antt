-- Each read is one of the part's, and what it lacks they lack.
use Rattle.std.proofs.Common.{List, ap, get_or, map, ◌∙◌, Contains}
use Rattle.std.proofs.lemmas.List.{take_all}
use Rattle.std.proofs.lemmas.List.Elements.{Contains-get_or}
use Rattle.ftl_deps.specs.declared.parts.part_read.PartRead.{PartRead}
use Rattle.ftl_deps.specs.declared.parts.part_read.PartRead.TheVariants.{Own}
use Rattle.ftl_deps.specs.parts.RuleParts.{read_meant}
use Rattle.ftl_meaning.specs.grammars.Meaning.{value_seen}
use Rattle.ftl_model.proofs.lists.Elements.{flat_map_has}
use Rattle.ftl_model.proofs.lists.Rising.{map_has}
use Rattle.ftl_model.specs.layout.AttributeGrammar.{occurrences, seen_by}
use Rattle.ftl_visit.specs.step_reads.StepReads.{kids_in}
use Rattle.ftl_demand.specs.demand.Outcomes.{value_at}
use Rattle.ftl_demand.proofs.demand.ReadValues.{lacks_more}
use Rattle.ftl_demand.proofs.demand.reads.gather.Goals as goal

pub given-requires-clause-there : goal.given-requires-clause-there
given-requires-clause-there c =
    let r = get_or c.args.reads.now c.loop-read.read-index (Own 0) in
    c.requires.there (read_meant r)
    (map_has read_meant c.args.reads.now r
    (Contains-get_or c.args.reads.now c.loop-read.read-index (Own 0) c.loop-read-test.true))

pub returns-in-Lacks-clause-lacking : goal.returns-in-Lacks-clause-lacking
returns-in-Lacks-clause-lacking c =
    let r = get_or c.args.reads.now c.loop-read.read-index (Own 0) in
    let reads = map read_meant c.args.reads.now in
    let see = occurrences (kids_in c.args.tree.now c.args.node) c.args.at_hand in
    let among : Contains reads (read_meant r) =
    map_has read_meant c.args.reads.now r
    (Contains-get_or c.args.reads.now c.loop-read.read-index (Own 0) c.loop-read-test.true) in
    lacks_more c.args.tree.now c.args.node (see (read_meant r))
    (seen_by (kids_in c.args.tree.now c.args.node) c.args.at_hand reads)
    (λ o h. flat_map_has see reads (read_meant r) o among h) c.args.words.now c.in-Lacks.wanted
    c.in-Lacks.ensures.given

pub returns-clause-values : goal.returns-clause-values
returns-clause-values c = λ vs solved.
    c.loop-read.invariant vs solved
    ∙ ap
    (λ (rs : List PartRead).
    map
    (λ r.
    value_seen (value_at c.args.tree.now vs c.args.node)
    (occurrences (kids_in c.args.tree.now c.args.node) c.args.at_hand r))
    (map read_meant rs))
    (take_all c.loop-read.read-index c.args.reads.now c.loop-read-test.false)
