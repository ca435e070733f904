use Rattle.std.proofs.Common.{◌≡◌, ◌<◌, ap, get_or, length, pos, slice_index_or, ◌∙◌, arith, sym}
use Rattle.ftl_model.specs.lists.Lists.{place_in}
use Rattle.ftl_model.proofs.lists.Elements.{distinct-filter}
use Rattle.ftl_model.proofs.lists.Places.{place_of_entry}
use Rattle.ftl_model.specs.layout.AttributeGrammar.{attributes_of, class_inputs, is_input}
use Rattle.ftl_model.specs.layout.Path.{class_at, inputs_at, node_at}
use Rattle.ftl_model.specs.layout.Values.{number, word_of_value}
use Rattle.ftl_model.proofs.layout.Fits.{fits_at}
use Rattle.ftl_order.proofs.orders.Owners.{class_distinct}
use Rattle.ftl_deps.specs.reads.Meant.{meant}
use Rattle.ftl_step_value.proofs.limits.reads.Entries.{class_in_range, there}
use Rattle.ftl_plan.proofs.plans.Inputs.{input_kept}
use Rattle.ftl_plan.proofs.plans.words.input_word.Goals as goal

pub input_at-requires-clause-place : goal.input_at-requires-clause-place
input_at-requires-clause-place c =
    let t = c.args.tree.now in
    let g = meant t.checked in
    let fits = c.node_count-nodes.ensures.is_tree in
    let here = there g c.requires.sound.law t.tree fits c.args.node c.requires.node in
    omega (arith, c.requires.place, (fits_at g t.tree (node_at t.tree c.args.node) fits here).class.count)

pub returns : goal.returns
returns c =
    let t = c.args.tree.now in
    let g = meant t.checked in
    let law = c.requires.sound.law in
    let fits = c.node_count-nodes.ensures.is_tree in
    let p = node_at t.tree c.args.node in
    let class = class_at t.tree p in
    let here = there g law t.tree fits c.args.node c.requires.node in
    let distinct = distinct-filter (λ a. is_input (g.sort a)) (attributes_of g class)
    (class_distinct g law class (class_in_range g law t.tree fits c.args.node c.requires.node)) in
    let a = get_or (class_inputs g class) c.args.place 0 in
    let at : place_in (class_inputs g class) a ≡ c.args.place =
    place_of_entry (class_inputs g class) distinct c.args.place 0 c.requires.place in
    let is =
    ap (λ k. number (slice_index_or (inputs_at t.tree p) k (pos 0))) at ∙ c.input_at.ensures.input in
    let kept = input_kept g law t.tree fits p a c.input_at.result here is in
    record {
      word = c.word_of.ensures.word ∙ ap word_of_value (c.num.ensures.value ∙ kept ∙ sym is);
    }
