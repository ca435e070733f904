-- Before the value of a read stand those of the reads before it.
use Rattle.std.proofs.Common.{◌≡◌, ◌<◌, Some, ap, arith, get_or, length, map, subst, sym, ◌∙◌, take}
use Rattle.std.proofs.lemmas.List.{get_or-map, length-map}
use Rattle.std.proofs.lemmas.List.Elements.{Contains-get_or}
use Rattle.std.proofs.lemmas.Option.{slice_get-get_or}
use Rattle.ftl_model.proofs.lists.Rising.{map_has}
use Rattle.ftl_model.specs.layout.AttributeGrammar.{Read, occurrences, seen_by}
use Rattle.ftl_deps.specs.parts.RuleParts.{read_meant}
use Rattle.ftl_deps.specs.declared.parts.part_read.PartRead.TheVariants.{Own}
use Rattle.ftl_visit.specs.step_reads.StepReads.{kids_in}
use Rattle.ftl_step_value.proofs.value.SpreadLaws.{seen_within, spread-none, spread-some}
use Rattle.ftl_step_value.proofs.value.values.given.Goals as goal

pub is_there-requires-clause-read : goal.is_there-requires-clause-read
is_there-requires-clause-read c =
    let r = get_or c.args.reads.now c.args.place (Own 0) in
    c.requires.reads (read_meant r)
    (map_has read_meant c.args.reads.now r (Contains-get_or c.args.reads.now c.args.place (Own 0) c.requires.place))

pub returns-then-not-is_there : goal.returns-then-not-is_there
returns-then-not-is_there c =
    let kids = kids_in c.args.tree.now c.args.node in
    let k = c.args.at_hand in
    let rs = map read_meant c.args.reads.now in
    let d = read_meant (Own 0) in
    let here : get_or rs c.args.place d ≡ read_meant (get_or c.args.reads.now c.args.place (Own 0)) =
    get_or-map read_meant c.args.reads.now c.args.place (Own 0) d c.requires.place in
    let within : c.args.place < length rs =
    subst (λ n. c.args.place < n) (sym (length-map c.args.reads.now read_meant)) c.requires.place in
    let none : length (occurrences kids k (get_or rs c.args.place d)) ≡ 0 =
    ap (λ (r : Read). length (occurrences kids k r)) here ∙ c.if-not-is_there.ensures.count in
    record { given = sym (spread-none kids k rs c.args.values.now c.args.place d within none) }

pub value_at-requires : goal.value_at-requires
value_at-requires c =
    let kids = kids_in c.args.tree.now c.args.node in
    let k = c.args.at_hand in
    let rs = map read_meant c.args.reads.now in
    let d = read_meant (Own 0) in
    let here : get_or rs c.args.place d ≡ read_meant (get_or c.args.reads.now c.args.place (Own 0)) =
    get_or-map read_meant c.args.reads.now c.args.place (Own 0) d c.requires.place in
    let within : c.args.place < length rs =
    subst (λ n. c.args.place < n) (sym (length-map c.args.reads.now read_meant)) c.requires.place in
    let one : length (occurrences kids k (get_or rs c.args.place d)) ≡ 1 =
    ap (λ (r : Read). length (occurrences kids k r)) here ∙ c.if-not-is_there.ensures.count in
    let before : c.args.there ≡ length (seen_by kids k (take c.args.place rs)) = c.requires.there in
    let all = seen_within kids k rs c.args.place d within in
    let long = c.requires.values in
    record { within = omega (arith, before, all, one, long) }

pub returns : goal.returns
returns c =
    let kids = kids_in c.args.tree.now c.args.node in
    let k = c.args.at_hand in
    let rs = map read_meant c.args.reads.now in
    let vs = c.args.values.now in
    let d = read_meant (Own 0) in
    let v = c.value_at.result in
    let here : get_or rs c.args.place d ≡ read_meant (get_or c.args.reads.now c.args.place (Own 0)) =
    get_or-map read_meant c.args.reads.now c.args.place (Own 0) d c.requires.place in
    let within : c.args.place < length rs =
    subst (λ n. c.args.place < n) (sym (length-map c.args.reads.now read_meant)) c.requires.place in
    let one : length (occurrences kids k (get_or rs c.args.place d)) ≡ 1 =
    ap (λ (r : Read). length (occurrences kids k r)) here ∙ c.if-not-is_there.ensures.count in
    let before : c.args.there ≡ length (seen_by kids k (take c.args.place rs)) = c.requires.there in
    let long = c.requires.values in
    let all = seen_within kids k rs c.args.place d within in
    let below : c.args.there < length vs = omega (arith, before, all, one, long) in
    record {
      given =
          sym c.value_at.ensures.value
          ∙ slice_get-get_or vs c.args.there v below
          ∙ ap (λ n. Some (get_or vs n v)) before
          ∙ sym (spread-some kids k rs vs c.args.place d v within one (omega (arith, long)));
    }
