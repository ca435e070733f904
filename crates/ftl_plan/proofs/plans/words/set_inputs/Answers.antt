use Rattle.std.proofs.Common.{◌+◌, List, ap, get_or, length, set, take, ◌∙◌, subst, sym, arith, ℕ}
use Rattle.std.proofs.lemmas.List.{take_all}
use Rattle.ftl_items.specs.stage_items.WordLaws.{first_word}
use Rattle.ftl_model.specs.layout.AttributeGrammar.{input}
use Rattle.ftl_model.specs.layout.Path.{node_at}
use Rattle.ftl_model.specs.layout.Solves.{instance_of}
use Rattle.ftl_deps.specs.reads.Meant.{meant}
use Rattle.ftl_step_value.specs.limits.reads.ReadTables.{class_in}
use Rattle.ftl_plan.specs.plans.InputWords.{AreSet}
use Rattle.ftl_plan.proofs.plans.InputRows.{input_at, input_row, none_set, number_inside, of_class, row_inputs, set_more}
use Rattle.ftl_plan.proofs.plans.words.set_inputs.Goals as goal

pub bounds-rows-class : goal.bounds-rows-class
bounds-rows-class c =
    let t = c.args.tree.now in
    (input_row (meant t.checked) c.requires.sound.law t.tree c.node_count-nodes.ensures.is_tree
    c.as_slice-rows.result.now c.args.node c.class-class.result (c.as_slice-rows.ensures ∙ c.requires.inputs)
    c.requires.node c.class-class.ensures.class).within

pub instance-cell-requires-clause-attr : goal.instance-cell-requires-clause-attr
instance-cell-requires-clause-attr c =
    let t = c.args.tree.now in
    let g = meant t.checked in
    let among = input_at g c.requires.sound.law t.tree c.node_count-nodes.ensures.is_tree c.as_slice-rows.result.now
    c.args.node c.class-class.result c.index-rows-class.result (c.as_slice-rows.ensures ∙ c.requires.inputs)
    c.requires.node c.class-class.ensures.class (c.as_slice-row.ensures ∙ c.index-rows-class.is)
    c.loop-place.place c.loop-place-test.true in
    of_class g c.requires.sound.law t.tree c.node_count-nodes.ensures.is_tree (class_in t c.args.node)
    (get_or c.as_slice-row.result.now c.loop-place.place 0) among

pub input_word-requires-clause-place : goal.input_word-requires-clause-place
input_word-requires-clause-place c =
    let t = c.args.tree.now in
    let row = row_inputs (meant t.checked) c.requires.sound.law t.tree c.node_count-nodes.ensures.is_tree
    c.as_slice-rows.result.now c.args.node c.class-class.result c.index-rows-class.result
    (c.as_slice-rows.ensures ∙ c.requires.inputs) c.requires.node c.class-class.ensures.class
    (c.as_slice-row.ensures ∙ c.index-rows-class.is) in
    let long = ap length row in
    let inside = c.loop-place-test.true in
    omega (arith, long, inside)

pub bounds-words-cell : goal.bounds-words-cell
bounds-words-cell c =
    let t = c.args.tree.now in
    let g = meant t.checked in
    let among = input_at g c.requires.sound.law t.tree c.node_count-nodes.ensures.is_tree c.as_slice-rows.result.now
    c.args.node c.class-class.result c.index-rows-class.result (c.as_slice-rows.ensures ∙ c.requires.inputs)
    c.requires.node c.class-class.ensures.class (c.as_slice-row.ensures ∙ c.index-rows-class.is)
    c.loop-place.place c.loop-place-test.true in
    let inside = number_inside g c.requires.sound.law t.tree c.node_count-nodes.ensures.is_tree c.args.node
    (get_or c.as_slice-row.result.now c.loop-place.place 0) c.requires.node among in
    let is = c.instance-cell.ensures.instance in
    let long = c.loop-place.invariant.count in
    let count = c.requires.words in
    omega (arith, inside, is, long, count)

pub loop-place-preserved : goal.loop-place-preserved
loop-place-preserved c =
    let t = c.args.tree.now in
    let g = meant t.checked in
    let among = input_at g c.requires.sound.law t.tree c.node_count-nodes.ensures.is_tree c.as_slice-rows.result.now
    c.args.node c.class-class.result c.index-rows-class.result (c.as_slice-rows.ensures ∙ c.requires.inputs)
    c.requires.node c.class-class.ensures.class (c.as_slice-row.ensures ∙ c.index-rows-class.is)
    c.loop-place.place c.loop-place-test.true in
    let row = row_inputs g c.requires.sound.law t.tree c.node_count-nodes.ensures.is_tree c.as_slice-rows.result.now
    c.args.node c.class-class.result c.index-rows-class.result (c.as_slice-rows.ensures ∙ c.requires.inputs)
    c.requires.node c.class-class.ensures.class (c.as_slice-row.ensures ∙ c.index-rows-class.is) in
    let place = c.loop-place.place in
    let items = c.as_slice-row.result.now in
    subst
    (λ n.
    AreSet g t.tree (node_at t.tree c.args.node) (take (place + 1) items) c.args.words.now
    (set c.loop-place.words n c.input_word.result))
    (sym c.instance-cell.ensures.instance)
    (set_more g c.requires.sound.law t.tree c.node_count-nodes.ensures.is_tree c.args.node items c.args.words.now
    c.loop-place.words place c.input_word.result c.requires.node c.requires.words c.loop-place-test.true among
    (c.input_word.ensures.word
    ∙ ap (λ (xs : List ℕ). first_word g t.tree input (instance_of (node_at t.tree c.args.node) (get_or xs place 0)))
    (sym row))
    c.loop-place.invariant)

pub loop-place-init : goal.loop-place-init
loop-place-init c =
    let t = c.args.tree.now in none_set (meant t.checked) t.tree (node_at t.tree c.args.node) c.args.words.now

pub returns : goal.returns
returns c =
    let t = c.args.tree.now in
    let g = meant t.checked in
    let row = row_inputs g c.requires.sound.law t.tree c.node_count-nodes.ensures.is_tree c.as_slice-rows.result.now
    c.args.node c.class-class.result c.index-rows-class.result (c.as_slice-rows.ensures ∙ c.requires.inputs)
    c.requires.node c.class-class.ensures.class (c.as_slice-row.ensures ∙ c.index-rows-class.is) in
    let past = c.loop-place-test.false in
    record {
      set =
          subst (λ (xs : List ℕ). AreSet g t.tree (node_at t.tree c.args.node) xs c.args.words.now c.loop-place.words)
          (take_all c.loop-place.place c.as_slice-row.result.now past ∙ row) c.loop-place.invariant;
    }
