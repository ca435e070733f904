-- There is one more cell at each place before.
use Rattle.std.proofs.Common.{◌≡◌, ◌<◌, get_or, length, Some, ap, sym, ◌∙◌, arith, refl, subst}
use Rattle.std.specs.Option.{IsSome}
use Rattle.std.proofs.lemmas.Option.{same_Some}
use Rattle.ftl_deps.specs.reads.Meant.{meant}
use Rattle.ftl_step_value.specs.cells.ReadCells.{read_cells}
use Rattle.ftl_step_value.proofs.cells.Taken.{taken}
use Rattle.ftl_step_value.proofs.cells.counts.read_at.Goals as goal

pub loop-before-preserved : goal.loop-before-preserved
loop-before-preserved c =
    let cells = read_cells (meant c.args.tree.now.checked) c.args.tree.now.tree c.args.step in
    let at = c.loop-before-test.true in
    let known = c.requires.place in
    let within : c.loop-before.before < length cells = omega (arith, at, known) in
    (taken cells c.loop-before.before c.next.result c.next.new.self within
    (sym c.loop-before.invariant ∙ c.next.ensures.next) c.next.ensures.end).left

pub unwrap-requires : goal.unwrap-requires
unwrap-requires c =
    let cells = read_cells (meant c.args.tree.now.checked) c.args.tree.now.tree c.args.step in
    let before : c.loop-before.before ≡ c.args.place = omega arith in
    let known = c.requires.place in
    let within : c.loop-before.before < length cells = omega (arith, before, known) in
    subst IsSome
    (sym
    (taken cells c.loop-before.before c.next-2.result c.next-2.new.self within
    (sym c.loop-before.invariant ∙ c.next-2.ensures.next) c.next-2.ensures.end).is)
    refl

pub returns : goal.returns
returns c =
    let cells = read_cells (meant c.args.tree.now.checked) c.args.tree.now.tree c.args.step in
    let before : c.loop-before.before ≡ c.args.place = omega arith in
    let known = c.requires.place in
    let within : c.loop-before.before < length cells = omega (arith, before, known) in
    let one = (taken cells c.loop-before.before c.next-2.result c.next-2.new.self within
    (sym c.loop-before.invariant ∙ c.next-2.ensures.next) c.next-2.ensures.end).is in
    let same : Some c.unwrap.result ≡ Some (get_or cells c.loop-before.before 0) = sym c.unwrap.ensures ∙ one in
    record { cell = same_Some c.unwrap.result (get_or cells c.loop-before.before 0) same ∙ ap (λ n. get_or cells n 0) before }
