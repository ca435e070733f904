use Rattle.std.proofs.Common.{◌≡◌, ℕ, List, inr, refl, sym, ap, ◌∙◌, string_bytes, subst}
use Rattle.ftl_meaning.specs.faults.Checked.{CheckedGrammar}
use Rattle.ftl_page.specs.declared.sections.fault.Section.TheVariants as section
use Rattle.ftl_tree.specs.trees.CheckedTree.{CheckedTree}
use Rattle.ftl_document.specs.reading.OfText.{IsTreeOfText}
use Rattle.ftl_answer.specs.answers.Stages.{hands_on}
use Rattle.ftl_answer.specs.answers.Texts.{grown_tree, scanned_as}
use Rattle.ftl_answer.proofs.reading.sections.growing.tree_of_nodes.Goals as goal

-- a tree that was read from the bytes is that of the text
plain_grown : (c : CheckedGrammar) (text : List ℕ) (t : CheckedTree) → IsTreeOfText c text t
    → grown_tree c text (hands_on t.tree)
plain_grown c text t is =
    inr (
      record { text = text; tokens = is.tokens },
      sym (ap (scanned_as section.Document text) is.scanned),
      inr (t, is.reads, refl),
    )

pub from_nodes-requires : goal.from_nodes-requires
from_nodes-requires c = record { nodes = (c.requires.nodes.tree.tree, c.requires.nodes.nodes) }

pub returns-in-Ok-clause-outcome : goal.returns-in-Ok-clause-outcome
returns-in-Ok-clause-outcome c =
    let k = c.args.checked.now in
    let read = c.requires.nodes in
    let made = c.in-Ok.ensures.tree read.tree.tree read.nodes in
    let same : read.tree ≡ record { checked = k; tree = read.tree.tree } =
    ap (λ (t : CheckedTree). record { checked = t.checked; tree = read.tree.tree }) read.of_text.reads.is in
    plain_grown k (string_bytes c.args.text) c.in-Ok.tree
    (subst (λ (t : CheckedTree). IsTreeOfText k (string_bytes c.args.text) t) (same ∙ sym made) read.of_text)

pub returns-in-Ok-clause-grammar : goal.returns-in-Ok-clause-grammar
returns-in-Ok-clause-grammar c =
    ap (λ (t : CheckedTree). t.checked) (c.in-Ok.ensures.tree c.requires.nodes.tree.tree c.requires.nodes.nodes)
