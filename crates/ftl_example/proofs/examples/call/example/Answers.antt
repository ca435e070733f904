use Rattle.std.proofs.Common.{subst}
use Rattle.ftl_deps.specs.reads.Meant.{meant}
use Rattle.ftl_example.specs.examples.Numbered.{IsFaultPair, IsNumberedExample}
use Rattle.ftl_example.specs.pairs.PairMeant.{pair_meant}
use Rattle.ftl_example.proofs.examples.FaultPairs.{found_for, holds_some}
use Rattle.ftl_example.proofs.examples.OptionHas.{ok_has, some_unless}
use Rattle.ftl_example.proofs.pairs.PairFaults.{is_unordered}
use Rattle.ftl_schedule.specs.declared.stages.types.Schedule.{Schedule}
use Rattle.ftl_schedule.specs.stages.Stages.{stages_of}
use Rattle.ftl_example.proofs.examples.call.example.Goals as goal

pub placed_copy-requires-clause-none : goal.placed_copy-requires-clause-none
placed_copy-requires-clause-none c =
    let f = c.requires.pair in
    (is_unordered (meant c.args.checked.now) (stages_of c.args.schedule.now) f.0 f.1 f.2).twice

pub unwrap-pair-requires : goal.unwrap-pair-requires
unwrap-pair-requires c =
    let f = c.requires.pair in
    let some =
    holds_some (meant c.args.checked.now) c.args.schedule.now c.in_ok-placed.placed c.in_ok-placed.ensures.same f.0 f.1
    f.2 c.in_ok-first_pair.field-0 c.in_ok-first_pair.ensures.pair in
    some_unless c.in_ok-first_pair.field-0 (λ none. absurd (let z : ⊥ = cc (none, some.1) in z))

pub example_of-requires-clause-once : goal.example_of-requires-clause-once
example_of-requires-clause-once c =
    let f = c.requires.pair in
    (found_for (meant c.args.checked.now) c.args.schedule.now c.in_ok-placed.placed c.in_ok-placed.ensures.same f.0 f.1
    f.2 c.in_ok-first_pair.field-0 c.in_ok-first_pair.ensures.pair c.unwrap-pair.result c.unwrap-pair.ensures).once

pub example_of-requires-clause-known : goal.example_of-requires-clause-known
example_of-requires-clause-known c =
    let f = c.requires.pair in
    (found_for (meant c.args.checked.now) c.args.schedule.now c.in_ok-placed.placed c.in_ok-placed.ensures.same f.0 f.1
    f.2 c.in_ok-first_pair.field-0 c.in_ok-first_pair.ensures.pair c.unwrap-pair.result c.unwrap-pair.ensures).known

pub example_of-requires-clause-pair : goal.example_of-requires-clause-pair
example_of-requires-clause-pair c =
    let f = c.requires.pair in
    (found_for (meant c.args.checked.now) c.args.schedule.now c.in_ok-placed.placed c.in_ok-placed.ensures.same f.0 f.1
    f.2 c.in_ok-first_pair.field-0 c.in_ok-first_pair.ensures.pair c.unwrap-pair.result c.unwrap-pair.ensures).pair

pub example_of-requires-clause-unordered : goal.example_of-requires-clause-unordered
example_of-requires-clause-unordered c =
    let f = c.requires.pair in
    (found_for (meant c.args.checked.now) c.args.schedule.now c.in_ok-placed.placed c.in_ok-placed.ensures.same f.0 f.1
    f.2 c.in_ok-first_pair.field-0 c.in_ok-first_pair.ensures.pair c.unwrap-pair.result c.unwrap-pair.ensures).unordered

pub returns-clause-example : goal.returns-clause-example
returns-clause-example c =
    let g = meant c.args.checked.now in
    let f = c.requires.pair in
    let found =
    found_for g c.args.schedule.now c.in_ok-placed.placed c.in_ok-placed.ensures.same f.0 f.1
    f.2 c.in_ok-first_pair.field-0 c.in_ok-first_pair.ensures.pair c.unwrap-pair.result c.unwrap-pair.ensures in
    let pair = pair_meant c.unwrap-pair.result in
    let fault = subst (λ (k : Schedule). IsFaultPair g (stages_of k) pair) c.in_ok-placed.ensures.same found.fault in
    ok_has c.example_of.result c.example_of.ensures.example
    (λ e is. (
      pair,
      fault,
      subst (λ (k : Schedule). IsNumberedExample g (stages_of k) pair e.tree.tree e.reader e.writer e.order)
          c.in_ok-placed.ensures.same is,
    ))

pub returns-clause-no_tree : goal.returns-clause-no_tree
returns-clause-no_tree c = λ e.
    let g = meant c.args.checked.now in
    let f = c.requires.pair in
    let found =
    found_for g c.args.schedule.now c.in_ok-placed.placed c.in_ok-placed.ensures.same f.0 f.1
    f.2 c.in_ok-first_pair.field-0 c.in_ok-first_pair.ensures.pair c.unwrap-pair.result c.unwrap-pair.ensures in
    let pair = pair_meant c.unwrap-pair.result in
    let fault = subst (λ (k : Schedule). IsFaultPair g (stages_of k) pair) c.in_ok-placed.ensures.same found.fault in
    (pair, fault, c.example_of.ensures.no_tree e)

pub returns-clause-too_large : goal.returns-clause-too_large
returns-clause-too_large c = λ e.
    let g = meant c.args.checked.now in
    let f = c.requires.pair in
    let found =
    found_for g c.args.schedule.now c.in_ok-placed.placed c.in_ok-placed.ensures.same f.0 f.1
    f.2 c.in_ok-first_pair.field-0 c.in_ok-first_pair.ensures.pair c.unwrap-pair.result c.unwrap-pair.ensures in
    let pair = pair_meant c.unwrap-pair.result in
    let fault = subst (λ (k : Schedule). IsFaultPair g (stages_of k) pair) c.in_ok-placed.ensures.same found.fault in
    (pair, fault, c.example_of.ensures.too_large e)
