use Rattle.std.proofs.Common.{◌≡◌, ◌++◌, ◌∙◌, List, OnOk, ap, subst, ℕ}
use Rattle.ftl_deps.specs.reads.Meant.{meant}
use Rattle.ftl_model.specs.layout.AttributeGrammar.{attributes_of}
use Rattle.ftl_answer.proofs.explanations.InstanceRows.{attributes_entry}
use Rattle.ftl_answer.specs.explanations.Rows.{attributes_at, node_rows}
use Rattle.ftl_answer.proofs.explanations.rows.add_node.Goals as goal

pub bounds-attrs-class : goal.bounds-attrs-class
bounds-attrs-class c =
    (attributes_entry c.args.tree.now c.tree_is_lawful.ensures.is_tree c.tree_is_lawful.ensures.faultless c.args.node
    c.class.result c.args.attrs.now c.requires.node c.class.ensures.class c.requires.attrs).within

pub returns : goal.returns
returns c =
    let t = c.args.tree.now in
    let at =
    attributes_entry t c.tree_is_lawful.ensures.is_tree c.tree_is_lawful.ensures.faultless c.args.node c.class.result
    c.args.attrs.now c.requires.node c.class.ensures.class c.requires.attrs in
    let row : c.as_slice.result.now ≡ attributes_at t c.args.node =
    c.as_slice.ensures ∙ c.index-attrs-class.is ∙ at.is c.index-attrs-class.result
    ∙ ap (λ (k : ℕ). attributes_of (meant t.checked) k) c.class.ensures.class in
    record {
      added =
          subst
          (λ (xs : List ℕ).
          OnOk c.add_attributes.result (c.add_attributes.new.rows.items ≡ c.args.rows.now.items ++ node_rows c.args.node xs))
          row c.add_attributes.ensures.added;
    }
