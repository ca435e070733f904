use Rattle.std.proofs.Common.{◌≤◌, ℕ, sym, ◌∙◌, subst, refl, List}
use Rattle.ftl_base.specs.Widths.{greatest_of_width}
use Rattle.ftl_deps.specs.reads.Meant.{meant}
use Rattle.ftl_model.specs.layout.Tree.{Forest}
use Rattle.ftl_meaning.specs.faults.Checked.{CheckedGrammar}
use Rattle.ftl_tree.specs.trees.Bare.{AreBareRows}
use Rattle.ftl_tree.specs.rows.Rows.{rows_of}
use Rattle.ftl_tree.specs.declared.rows.row.NodeRow.{NodeRow}
use Rattle.ftl_grammar_cases.proofs.documents.nodes.write_bare.Goals as goal

pub bare_tree-requires : goal.bare_tree-requires
bare_tree-requires c =
    let t = c.args.tree.now in
    record {
      rows = (
        t.tree,
        subst (λ (rows : List NodeRow). AreBareRows (meant c.checked.result.now) t.tree rows)
            (sym (c.as_slice.ensures.value ∙ c.in_ok-rows.ensures.rows))
            (subst (λ (g : CheckedGrammar). AreBareRows (meant g) t.tree (rows_of t.tree)) (sym c.checked.ensures.grammar) (record {
              is_tree = c.node_count-nodes.ensures.is_tree;
              rows_are = refl;
              few_nodes = subst (λ (n : ℕ). n ≤ 1048576) c.node_count-nodes.ensures.count c.node_count-nodes.ensures.bound;
              few_instances =
                  subst (λ (n : ℕ). n ≤ 33554432) c.instance_count-instances.ensures.count
                  c.instance_count-instances.ensures.bound;
            })),
      );
    }
