use Rattle.ftl_deps.specs.reads.Meant.{meant}
use Rattle.ftl_example.specs.pairs.PairMeant.{pair_meant}
use Rattle.ftl_example.proofs.examples.OptionHas.{ok_has, some_unless}
use Rattle.ftl_nest_check.specs.stages.Nested.{nests_of}
use Rattle.ftl_example.proofs.nests.examples.FaultPairs.{found_for, holds_some}
use Rattle.ftl_example.proofs.nests.examples.call.nest_example.Goals as goal

pub unwrap-pair-requires : goal.unwrap-pair-requires
unwrap-pair-requires c =
    let some =
    holds_some (meant c.args.checked.now) (nests_of c.args.placed.now) c.requires.pair.0 c.requires.pair.1 c.requires.pair.2
    c.in_ok-first_pair.field-0 c.in_ok-first_pair.ensures.pair in
    some_unless c.in_ok-first_pair.field-0 (λ none. absurd (let z : ⊥ = cc (none, some.1) in z))

pub example_of-requires-clause-sides : goal.example_of-requires-clause-sides
example_of-requires-clause-sides c = c.requires.kept.sides

pub example_of-requires-clause-once : goal.example_of-requires-clause-once
example_of-requires-clause-once c =
    (found_for (meant c.args.checked.now) (nests_of c.args.placed.now) c.requires.pair.0 c.requires.pair.1 c.requires.pair.2
    c.in_ok-first_pair.field-0 c.in_ok-first_pair.ensures.pair c.unwrap-pair.result c.unwrap-pair.ensures).once

pub example_of-requires-clause-known : goal.example_of-requires-clause-known
example_of-requires-clause-known c =
    (found_for (meant c.args.checked.now) (nests_of c.args.placed.now) c.requires.pair.0 c.requires.pair.1 c.requires.pair.2
    c.in_ok-first_pair.field-0 c.in_ok-first_pair.ensures.pair c.unwrap-pair.result c.unwrap-pair.ensures).known

pub example_of-requires-clause-pair : goal.example_of-requires-clause-pair
example_of-requires-clause-pair c =
    (found_for (meant c.args.checked.now) (nests_of c.args.placed.now) c.requires.pair.0 c.requires.pair.1 c.requires.pair.2
    c.in_ok-first_pair.field-0 c.in_ok-first_pair.ensures.pair c.unwrap-pair.result c.unwrap-pair.ensures).pair

pub example_of-requires-clause-unordered : goal.example_of-requires-clause-unordered
example_of-requires-clause-unordered c =
    (found_for (meant c.args.checked.now) (nests_of c.args.placed.now) c.requires.pair.0 c.requires.pair.1 c.requires.pair.2
    c.in_ok-first_pair.field-0 c.in_ok-first_pair.ensures.pair c.unwrap-pair.result c.unwrap-pair.ensures).unordered

pub returns-clause-example : goal.returns-clause-example
returns-clause-example c =
    let found =
    found_for (meant c.args.checked.now) (nests_of c.args.placed.now) c.requires.pair.0 c.requires.pair.1 c.requires.pair.2
    c.in_ok-first_pair.field-0 c.in_ok-first_pair.ensures.pair c.unwrap-pair.result c.unwrap-pair.ensures in
    ok_has c.example_of.result c.example_of.ensures.example (λ e is. (pair_meant c.unwrap-pair.result, found.fault, is))

pub returns-clause-no_tree : goal.returns-clause-no_tree
returns-clause-no_tree c = λ e.
    let found =
    found_for (meant c.args.checked.now) (nests_of c.args.placed.now) c.requires.pair.0 c.requires.pair.1 c.requires.pair.2
    c.in_ok-first_pair.field-0 c.in_ok-first_pair.ensures.pair c.unwrap-pair.result c.unwrap-pair.ensures in
    (pair_meant c.unwrap-pair.result, found.fault, c.example_of.ensures.no_tree e)

pub returns-clause-too_large : goal.returns-clause-too_large
returns-clause-too_large c = λ e.
    let found =
    found_for (meant c.args.checked.now) (nests_of c.args.placed.now) c.requires.pair.0 c.requires.pair.1 c.requires.pair.2
    c.in_ok-first_pair.field-0 c.in_ok-first_pair.ensures.pair c.unwrap-pair.result c.unwrap-pair.ensures in
    (pair_meant c.unwrap-pair.result, found.fault, c.example_of.ensures.too_large e)
