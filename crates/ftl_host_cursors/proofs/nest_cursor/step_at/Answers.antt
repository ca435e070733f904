use Rattle.std.proofs.Common.{◌≡◌, ◌<◌, get_or, length, Some, ap, sym, ◌∙◌, arith, refl, subst}
use Rattle.std.specs.Option.{IsSome}
use Rattle.std.proofs.lemmas.Option.{same_Some}
use Rattle.ftl_cursors.specs.item_cursor.ItemSteps.{no_step}
use Rattle.ftl_host_cursors.specs.NestTables.{nest_steps_left}
use Rattle.ftl_cursors.proofs.item_cursor.TakenSteps.{taken}
use Rattle.ftl_host_cursors.proofs.nest_cursor.step_at.Goals as goal

pub loop-before-preserved : goal.loop-before-preserved
loop-before-preserved c =
    let all = nest_steps_left c.args.steps in
    let at = c.loop-before-test.true in
    let known = c.requires.place in
    let within : c.loop-before._before < length all = omega (arith, at, known) in
    (taken all c.loop-before._before c.next.result (nest_steps_left c.loop-before.steps) (nest_steps_left c.next.new.self) within
    c.loop-before.invariant c.next.ensures.step).left

pub unwrap-requires : goal.unwrap-requires
unwrap-requires c =
    let all = nest_steps_left c.args.steps in
    let before : c.loop-before._before ≡ c.args.place = omega arith in
    let known = c.requires.place in
    let within : c.loop-before._before < length all = omega (arith, before, known) in
    subst IsSome
    (sym
    (taken all c.loop-before._before c.next-2.result (nest_steps_left c.loop-before.steps) (nest_steps_left c.next-2.new.self)
    within c.loop-before.invariant c.next-2.ensures.step).is)
    refl

pub returns : goal.returns
returns c =
    let all = nest_steps_left c.args.steps in
    let before : c.loop-before._before ≡ c.args.place = omega arith in
    let known = c.requires.place in
    let within : c.loop-before._before < length all = omega (arith, before, known) in
    let one = (taken all c.loop-before._before c.next-2.result (nest_steps_left c.loop-before.steps) (nest_steps_left
    c.next-2.new.self) within c.loop-before.invariant c.next-2.ensures.step).is in
    let same : Some c.unwrap.result ≡ Some (get_or all c.loop-before._before no_step) = sym c.unwrap.ensures ∙ one in
    record {
      step =
          same_Some c.unwrap.result (get_or all c.loop-before._before no_step) same
          ∙ ap (λ n. get_or all n no_step) before;
    }
