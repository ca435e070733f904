use Rattle.std.proofs.Common.{◌+◌, ◌<◌, arith, ap}
use Rattle.ftl_deps.specs.reads.Meant.{meant}
use Rattle.ftl_meaning.specs.declared.faults.info.ChildInfo.{ChildInfo}
use Rattle.ftl_meaning.proofs.lawful.RequiredRules.{child_known, interface_known}
use Rattle.ftl_regions.proofs.hosts.StepLaws.{steps_more}
use Rattle.ftl_regions.proofs.hosts.steps.add_steps.Goals as goal

pub put-requires-clause-from : goal.put-requires-clause-from
put-requires-clause-from c =
    let known =
    interface_known c.args.checked.now.grammar c.grammar-lawful.ensures.lawful c.args.class c.requires.class in
    let is = c.interface_of-interface.ensures.interface in
    let size = c.loop-child.invariant.size in
    omega (arith, known, is, size)

pub put-requires-clause-to : goal.put-requires-clause-to
put-requires-clause-to c =
    let within : c.loop-child.child < (meant c.args.checked.now).child_count c.args.class =
    omega (arith, c.loop-child-test.true, c.child_count-child-end.ensures.count) in
    let known =
    child_known c.args.checked.now.grammar c.grammar-lawful.ensures.lawful c.args.class c.loop-child.child
    c.requires.class within in
    let is = ap (λ (x : ChildInfo). x.interface) c.child-below.ensures.info in
    let size = c.loop-child.invariant.size in
    omega (arith, known, is, size)

pub put-requires-in-loop-child-clause-to : goal.put-requires-in-loop-child-clause-to
put-requires-in-loop-child-clause-to c =
    let within : c.loop-child.child < (meant c.args.checked.now).child_count c.args.class =
    omega (arith, c.loop-child-test.true, c.child_count-child-end.ensures.count) in
    let known =
    child_known c.args.checked.now.grammar c.grammar-lawful.ensures.lawful c.args.class c.loop-child.child
    c.requires.class within in
    let is = ap (λ (x : ChildInfo). x.interface) c.child-below.ensures.info in
    let size = c.loop-child.invariant.size in
    let first = c.put.ensures.size in
    omega (arith, known, is, size, first)

pub loop-child-preserved : goal.loop-child-preserved
loop-child-preserved c =
    steps_more (meant c.args.checked.now) c.args.class c.loop-child.child c.loop-child.steps c.put.new.self
    c.put-in-loop-child.new.self c.interface_of-interface.result (c.interface_count.result + c.args.class)
    c.child-below.result.interface c.loop-child.invariant c.interface_of-interface.ensures.interface
    (ap (λ n. n + c.args.class) c.interface_count.ensures.count)
    (ap (λ (x : ChildInfo). x.interface) c.child-below.ensures.info) c.put.ensures.added
    c.put-in-loop-child.ensures.added c.put.ensures.size c.put-in-loop-child.ensures.size
