use Rattle.std.proofs.Common.{◌≡◌, length, refl, ap, arith}
use Rattle.std.proofs.lemmas.List.{length-map}
use Rattle.ftl_schedule.specs.stages.Stages.{pass_of}
use Rattle.ftl_cursors.specs.items.StageItems.{items_in, passes_in, start_in}
use Rattle.ftl_cursors.proofs.items.FirstClasses.{all_classes, no_classes}
use Rattle.ftl_cursors.proofs.items.classes.item_classes.Goals as goal

pub overflow_cast-pass_count : goal.overflow_cast-pass_count
overflow_cast-pass_count c =
    let few = c.args.items.fit.few in
    let long = length-map c.args.items.passes.now pass_of in
    omega (arith, few, long)

pub loop-pass-init : goal.loop-pass-init
loop-pass-init c = no_classes c.args.items 0 c.in_ok-sets.sets.items refl (ap length c.in_ok-sets.ensures.items)

pub add_pass-requires-clause-known : goal.add_pass-requires-clause-known
add_pass-requires-clause-known c = let test = c.loop-pass-test.true in omega (arith, test)

pub returns : goal.returns
returns c =
    let s = c.args.items in
    let past = c.loop-pass-test.false in
    let most = c.loop-pass.auto.pass-end in
    let count = length-map s.passes.now pass_of in
    let all : start_in s c.loop-pass.pass ≡ start_in s (length (passes_in s)) =
    ap (start_in s) (omega (arith, past, most, count)) in
    record { sets = all_classes s (start_in s c.loop-pass.pass) c.loop-pass.sets.items c.loop-pass.invariant all }
