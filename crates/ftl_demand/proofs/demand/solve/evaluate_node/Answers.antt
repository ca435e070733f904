-- The attributes of the node's class are gone through in order.
use Rattle.std.proofs.Common.{◌≡◌, ◌≢◌, ℕ, List, Contains, arith, get_or, subst, sym, ◌∙◌}
use Rattle.std.proofs.lemmas.Grind.{get_or_default_zero}
use Rattle.ftl_deps.specs.reads.Meant.{meant}
use Rattle.ftl_step_value.proofs.limits.reads.Entries.{class_entry}
use Rattle.ftl_step_value.specs.limits.reads.ReadTables.{class_in, instance_in}
use Rattle.ftl_model.specs.layout.AttributeGrammar.{attributes_of}
use Rattle.ftl_model.specs.layout.Table.{instance_number}
use Rattle.ftl_demand.proofs.demand.Nodes.{in_row, row_is, stays_on, there_still}
use Rattle.ftl_demand.proofs.demand.solve.evaluate_node.Goals as goal
use borrow.Author.Count.{below_more}

pub bounds-rows-class : goal.bounds-rows-class
bounds-rows-class c =
    let t = c.args.site.now.tree.now in
    let g = meant t.checked in
    (class_entry g c.requires.site.sound.law t.tree c.node_count-nodes.ensures.is_tree (attributes_of g) c.args.node
    c.requires.node c.class-class.ensures.class (c.as_slice-rows.ensures ∙ c.requires.site.tables.attributes)).within

pub evaluate_attr-requires-clause-known : goal.evaluate_attr-requires-clause-known
evaluate_attr-requires-clause-known c =
    let t = c.args.site.now.tree.now in
    record {
      node = c.requires.node;
      attr =
          in_row t c.requires.site.sound.law c.node_count-nodes.ensures.is_tree c.args.node c.requires.node
          c.class-class.result c.class-class.ensures.class c.as_slice-rows.result.now
          (c.as_slice-rows.ensures ∙ c.requires.site.tables.attributes) c.as_slice-attr-items.result.now
          c.index-rows-class.result (c.as_slice-attr-items.ensures ∙ c.index-rows-class.is) c.loop-attr.attr-index
          c.loop-attr-test.true;
    }

pub loop-attr-preserved : goal.loop-attr-preserved
loop-attr-preserved c =
    let t = c.args.site.now.tree.now in
    let g = meant t.checked in
    let after = c.in_ok-evaluate_attr.ensures in
    let number : ℕ → ℕ =
    λ k. instance_number g t.tree (instance_in t c.args.node (get_or c.as_slice-attr-items.result.now k 0)) in
    record {
      words = after.words;
      stays =
          stays_on c.args.words.now c.loop-attr.words c.evaluate_attr.new.words c.loop-attr.invariant.stays after.stays;
      there =
          below_more (λ k. get_or c.evaluate_attr.new.words (number k) 0 ≢ 0) c.loop-attr.attr-index
          (λ k below.
          there_still c.loop-attr.words c.evaluate_attr.new.words after.stays (number k)
          (c.loop-attr.invariant.there k below))
          after.there;
      empty = after.empty;
      room = after.room ∙ c.loop-attr.invariant.room;
    }

pub returns-clause-there : goal.returns-clause-there
returns-clause-there c = λ attr of.
    let t = c.args.site.now.tree.now in
    let g = meant t.checked in
    let row = c.as_slice-attr-items.result.now in
    let is : row ≡ attributes_of g (class_in t c.args.node) =
    row_is t c.requires.site.sound.law c.node_count-nodes.ensures.is_tree c.args.node c.requires.node
    c.class-class.result c.class-class.ensures.class c.as_slice-rows.result.now
    (c.as_slice-rows.ensures ∙ c.requires.site.tables.attributes) row c.index-rows-class.result
    (c.as_slice-attr-items.ensures ∙ c.index-rows-class.is) in
    let here : Contains row attr = subst (λ (xs : List ℕ). Contains xs attr) (sym is) of in
    let within = here.1 in
    let past = c.loop-attr-test.false in
    let same : get_or row here.0 0 ≡ attr = sym (get_or_default_zero row here.0 attr within) ∙ here.2 in
    subst (λ a. get_or c.loop-attr.words (instance_number g t.tree (instance_in t c.args.node a)) 0 ≢ 0) same
    (c.loop-attr.invariant.there here.0 (omega (arith, within, past)))
