use Rattle.std.proofs.Common.{ℕ, List, string_bytes, subst}
use Rattle.ftl_document.specs.reading.OfText.{AreNodesOfText}
use Rattle.ftl_answer.proofs.reading.sections.growing.grown_tree_of.Goals as goal

pub tree_of_nodes-requires : goal.tree_of_nodes-requires
tree_of_nodes-requires c =
    let k = c.args.checked.now in
    let read = rw c.in-Ok-Some.field-0-is at c.in-Ok-Some.ensures.nodes in
    record {
      nodes = subst (λ (l : List ℕ). AreNodesOfText k l c.in-Ok-Some.nodes) c.as_str.ensures.value read;
    }
