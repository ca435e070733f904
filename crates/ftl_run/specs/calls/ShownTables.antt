-- What is shown of a tree whose values are given by instance.
use Rattle.std.specs.Prelude.{ℕ, List}
use Rattle.ftl_deps.specs.reads.Meant.{meant}
use Rattle.ftl_meaning.specs.grammars.GrammarOf.{names_of}
use Rattle.ftl_model.specs.layout.Boxes.{boxes}
use Rattle.ftl_model.specs.layout.Solves.{Instance}
use Rattle.ftl_model.specs.layout.Values.{Value}
use Rattle.ftl_tree.specs.trees.CheckedTree.{CheckedTree}
use Rattle.ftl_answer.specs.answers.Summary.{summary}
use Rattle.ftl_answer.specs.declared.reading.requests.shown.Shown.{Shown}
use Rattle.ftl_answer.specs.declared.reading.requests.shown.Shown.TheVariants as shown

-- the text of a tree by the values of its instances
abbrev pub text_by : Shown → CheckedTree → (Instance → Value) → List ℕ
text_by shown.Boxes t s = boxes (names_of t.checked.grammar) t.tree s
text_by (shown.Summary name) t s = summary name (meant t.checked) (names_of t.checked.grammar) t.tree s
