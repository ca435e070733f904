use Rattle.std.proofs.Common.{◌≡◌, ◌+◌, ◌<◌, ◌≤◌, get_or, length, sym, ◌∙◌, ap, subst, arith}
use Rattle.std.proofs.lemmas.List.{length-map}
use Rattle.ftl_model.specs.layout.Tree.{size}
use Rattle.ftl_schedule.specs.stages.Stages.{pass_of}
use Rattle.ftl_cursors.specs.items.ItemClasses.{AreFirstClasses, IsAdded}
use Rattle.ftl_cursors.specs.items.StageItems.{cuts_in, passes_in, start_in, tops_of, tree_of}
use Rattle.ftl_cursors.proofs.items.FirstClasses.{begins_next, begins_with, classes_of_item, count_of_tops, few_before, first_more}
use Rattle.ftl_cursors.proofs.items.Starts.{length-pass_starts, pass_kind}
use Rattle.ftl_cursors.proofs.items.classes.add_pass.Goals as goal

pub bounds-items-pass-2 : goal.bounds-items-pass-2
bounds-items-pass-2 c =
    let s = c.args.items in
    let len = length-pass_starts (length (passes_in s)) (cuts_in s) (tree_of s) s.starts.now s.fit in
    let count = length-map s.passes.now pass_of in
    let known = c.requires.known in
    omega (arith, len, count, known)

pub loop-item-init : goal.loop-item-init
loop-item-init c =
    let s = c.args.items in
    let zero : start_in s c.args.pass ≡ start_in s c.args.pass + 0 = omega arith in
    subst (λ n. AreFirstClasses s n c.args.sets.now.items) zero c.requires.before

pub overflow_add-number : goal.overflow_add-number
overflow_add-number c =
    let s = c.args.items in
    let fits = c.node_count-nodes.ensures.is_tree in
    let nodes = c.node_count-nodes.ensures.count in
    let bound = c.node_count-nodes.ensures.bound in
    let is = begins_with s fits c.args.pass c.requires.known in
    let few = few_before s fits c.args.pass c.requires.known (omega (arith, nodes, bound)) in
    let test = c.loop-item-test.true in
    let most = c.count-item-end.ensures.bound in
    omega (arith, is, few, test, most)

pub classes_of-classes-requires : goal.classes_of-classes-requires
classes_of-classes-requires c =
    let test = c.loop-item-test.true in
    let count = c.count-item-end.ensures.count in
    record { item = omega (arith, test, count) }

pub add_classes-requires : goal.add_classes-requires
add_classes-requires c =
    let s = c.args.items in
    let is = begins_with s c.node_count-nodes.ensures.is_tree c.args.pass c.requires.known in
    let blocks = c.loop-item.invariant.blocks in
    record { count = omega (arith, is, blocks) }

pub loop-item-preserved : goal.loop-item-preserved
loop-item-preserved c =
    let s = c.args.items in
    let m = c.args.pass in
    let j = c.loop-item.item in
    let fits = c.node_count-nodes.ensures.is_tree in
    let rows = c.rows_of-rows.result.now in
    let cut = c.rows_of-rows.ensures.rows in
    let kind = (get_or s.passes.now m c.index-items-pass.result).kind in
    let same = pass_kind s.passes.now m c.index-items-pass.result c.requires.known in
    let known : j < length (tops_of rows kind) =
    (let test = c.loop-item-test.true in let count = c.count-item-end.ensures.count in omega (arith, test, count)) in
    let has =
    classes_of_item s fits m c.requires.known rows cut kind same j known c.classes_of-classes.result
    c.classes_of-classes.ensures.classes in
    let classes = c.classes_of-classes.result in
    let old = c.loop-item.sets.items in
    let new = c.add_classes.new.sets.items in
    let added : IsAdded (start_in s m + j) classes old new =
    subst (λ n. IsAdded (n + j) classes old new) (begins_with s fits m c.requires.known) c.in_ok-add_classes.ensures.added in
    let next : start_in s m + j + 1 ≡ start_in s m + (j + 1) = omega arith in
    subst (λ n. AreFirstClasses s n new) next
    (first_more s (start_in s m + j) classes old new c.loop-item.invariant added has)

pub returns : goal.returns
returns c =
    let s = c.args.items in
    let m = c.args.pass in
    let j = c.loop-item.item in
    let fits = c.node_count-nodes.ensures.is_tree in
    let rows = c.rows_of-rows.result.now in
    let cut = c.rows_of-rows.ensures.rows in
    let kind = (get_or s.passes.now m c.index-items-pass.result).kind in
    let same = pass_kind s.passes.now m c.index-items-pass.result c.requires.known in
    let tops = count_of_tops s fits m c.requires.known rows cut kind same in
    let test = c.loop-item-test.false in
    let most = c.loop-item.auto.item-end in
    let count = c.count-item-end.ensures.count in
    let next = begins_next s fits m c.requires.known j (omega (arith, tops, test, most, count)) in
    record { after = subst (λ n. AreFirstClasses s n c.loop-item.sets.items) next c.loop-item.invariant }
