use Rattle.std.proofs.Common.{◌≡◌, subst, ⊎_elim, arith}
use Rattle.std.proofs.lemmas.Bool.{cases_lt}
use Rattle.std.proofs.lemmas.List.Elements.{Contains-get_or}
use Rattle.ftl_cursors.specs.item_cursor.ItemSteps.{no_step}
use Rattle.ftl_deps.specs.reads.Meant.{meant}
use Rattle.ftl_example.specs.examples.ShownSteps.{AreShownBy, step_in}
use Rattle.ftl_example.specs.pairs.PairMeant.{pair_meant}
use Rattle.ftl_example.proofs.examples.shown_steps.shown_steps.Goals as goal

pub writer_of-requires-clause-reader : goal.writer_of-requires-clause-reader
writer_of-requires-clause-reader c =
    c.requires.steps (step_in c.args.steps.now c.loop-reader.reader)
    (Contains-get_or c.args.steps.now c.loop-reader.reader no_step c.loop-reader-test.true)

pub loop-reader-preserved : goal.loop-reader-preserved
loop-reader-preserved c = λ m less n shown.
    let g = meant c.args.tree.now.checked in
    let t = c.args.tree.now.tree in
    let steps = c.args.steps.now in
    ⊎_elim (λ low. c.loop-reader.invariant m low n shown)
    (λ high.
    let same : m ≡ c.loop-reader.reader = omega (arith, less, high) in
    c.writer_of.ensures.none c.in_default.is n (
      shown.writer_within,
      subst (λ k. AreShownBy g t (pair_meant c.args.pair) (step_in steps k) (step_in steps n)) same shown.are,
    ))
    (cases_lt m c.loop-reader.reader)
