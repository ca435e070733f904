-- The attributes are those of the node's class.
use Rattle.std.proofs.Common.{◌∙◌}
use Rattle.ftl_deps.specs.reads.Meant.{meant}
use Rattle.ftl_step_value.proofs.limits.reads.Entries.{class_entry}
use Rattle.ftl_model.specs.layout.AttributeGrammar.{attributes_of}
use Rattle.ftl_demand.proofs.demand.Nodes.{in_row}
use Rattle.ftl_demand.proofs.demand.solve.evaluate_inherited.Goals as goal
use Rattle.ftl_demand.proofs.demand.solve.evaluate_inherited.Goals.{then-is_none+in_ok-evaluate_attr, else-is_none}

pub bounds-rows-class : goal.bounds-rows-class
bounds-rows-class c =
    let t = c.args.site.now.tree.now in
    let g = meant t.checked in
    (class_entry g c.requires.site.sound.law t.tree c.node_count-nodes.ensures.is_tree (attributes_of g) c.args.node
    c.requires.node c.class-class.ensures.class (c.as_slice-rows.ensures ∙ c.requires.site.tables.attributes)).within

pub own_rule-requires-clause-attr : goal.own_rule-requires-clause-attr
own_rule-requires-clause-attr c =
    let t = c.args.site.now.tree.now in
    in_row t c.requires.site.sound.law c.node_count-nodes.ensures.is_tree c.args.node c.requires.node
    c.class-class.result c.class-class.ensures.class c.as_slice-rows.result.now
    (c.as_slice-rows.ensures ∙ c.requires.site.tables.attributes) c.as_slice-attr-items.result.now
    c.index-rows-class.result (c.as_slice-attr-items.ensures ∙ c.index-rows-class.is) c.loop-attr.attr-index
    c.loop-attr-test.true

pub evaluate_attr-requires-clause-known : goal.evaluate_attr-requires-clause-known
evaluate_attr-requires-clause-known c =
    let t = c.args.site.now.tree.now in
    record {
      node = c.requires.node;
      attr =
          in_row t c.requires.site.sound.law c.node_count-nodes.ensures.is_tree c.args.node c.requires.node
          c.class-class.result c.class-class.ensures.class c.as_slice-rows.result.now
          (c.as_slice-rows.ensures ∙ c.requires.site.tables.attributes) c.as_slice-attr-items.result.now
          c.index-rows-class.result (c.as_slice-attr-items.ensures ∙ c.index-rows-class.is) c.loop-attr.attr-index
          c.loop-attr-test.true;
    }

pub loop-attr-preserved : goal.loop-attr-preserved
loop-attr-preserved c =
    elim c.if-is_none.branch [
      | then-is_none+in_ok-evaluate_attr w ↦
          let after = w.in_ok-evaluate_attr.ensures in
          record {
            words = rw w.words-is after.words;
            empty = rw w.waiting-is after.empty;
            room = rw w.buffers-is (after.room ∙ c.loop-attr.invariant.room);
          }
      | else-is_none w ↦ record {
        words = rw w.words-is c.loop-attr.invariant.words;
        empty = rw w.waiting-is c.loop-attr.invariant.empty;
        room = rw w.buffers-is c.loop-attr.invariant.room;
      }
    ]
