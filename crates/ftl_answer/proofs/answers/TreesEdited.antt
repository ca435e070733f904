-- A page has one list of edits, or one refusal of them; a tree with its edits applied is a tree of the grammar.
use Rattle.std.proofs.Common.{ℕ, ◌≤◌, ℤ, sym, List, [], ◌∷◌, length}
use Rattle.std.specs.Str.{IsUtf8}
use Rattle.std.proofs.lemmas.List.Elements.{All-head, All-tail}
use Rattle.ftl_base.specs.Widths.{greatest_of_width}
use Rattle.ftl_deps.specs.reads.Meant.{meant}
use Rattle.ftl_edits.specs.declared.meaning.types.Edit.{Edit}
use Rattle.ftl_edits.specs.declared.meaning.fault.EditFault.TheVariants as fault
use Rattle.ftl_edits.specs.meaning.Editable.{AreEditsOf, IsEditOf}
use Rattle.ftl_edits.specs.reading.Read.{ReadsEdits}
use Rattle.ftl_edits.proofs.meaning.Editable.{editable}
use Rattle.ftl_edits.proofs.reading.AnswerLemmas.{any_two_answers, some_answer}
use Rattle.ftl_edits.proofs.syntax.Numbers.{edits-within}
use Rattle.ftl_meaning.specs.faults.Checked.{CheckedGrammar}
use Rattle.ftl_model.specs.lists.Lists.{place_in}
use Rattle.ftl_model.specs.layout.AttributeGrammar.{AttributeGrammar, class_inputs}
use Rattle.ftl_model.specs.layout.Path.{class_at, node_at}
use Rattle.ftl_model.specs.layout.Tree.{Forest}
use Rattle.ftl_model.specs.layout.TreeOf.{IsInput, IsTreeOf}
use Rattle.ftl_model.specs.layout.WithInput.{IsInputOf, changed, with_input}
use Rattle.ftl_order.specs.orders.Lawful.{IsLawful}
use Rattle.ftl_page.specs.declared.sections.fault.Section.TheVariants as section
use Rattle.ftl_relayout.specs.laws.Edits.{AreInputEdits}
use Rattle.ftl_relayout.specs.laws.Edits as change
use Rattle.ftl_relayout.specs.relaid.Relaid.{edited_tree}
use Rattle.ftl_relayout.proofs.laws.Edited.{input_still}
use Rattle.ftl_tree.specs.trees.CheckedTree.{CheckedTree}
use Rattle.ftl_tree.proofs.trees.Changed.{keeps_lengths, keeps_width, tree-changed}
use Rattle.ftl_tree.proofs.trees.OneInput.{changes_one}
use Rattle.ftl_answer.specs.refusals.EditLines.{edit_line}
use Rattle.ftl_answer.specs.answers.Answer.{refused}
use Rattle.ftl_answer.specs.answers.Stages.{hands_on}
use Rattle.ftl_answer.specs.answers.Texts.{edits, spelled_edits, tokens, wide}
use Rattle.ftl_answer.proofs.answers.Ones.{HasOne, is_one, then_handed, then_one, result_one}
use Rattle.ftl_answer.proofs.answers.TreesRead.{AreFew, are_scanned, few_of}

-- ---- the edits of a text

-- the tree with its grammar
abbrev with_grammar : CheckedGrammar → Forest → CheckedTree
with_grammar c t = record { checked = c; tree = t }

pub edits_one : (c : CheckedGrammar) (t : Forest) (text : List ℕ) → HasOne (edits c t text)
edits_one c t text =
    then_one (tokens section.Edits (greatest_of_width c.width) text)
    (λ scanned. spelled_edits c t (wide (greatest_of_width c.width) scanned)) (is_one _)
    (λ scanned is.
    let w = wide (greatest_of_width c.width) scanned in
    result_one fault.OutOfMemory (λ fault. refused 10 (edit_line fault)) (ReadsEdits (with_grammar c t) w)
    (some_answer (with_grammar c t) w) (any_two_answers (with_grammar c t) w))

-- the edits of a short text in UTF-8 are edits of the tree
pub edits_fit : (c : CheckedGrammar) (t : Forest) (text : List ℕ) → length text ≤ 67108864 → IsUtf8 text
    → (es : List Edit) → edits c t text (hands_on es) → AreEditsOf (with_grammar c t) es
edits_fit c t text short utf8 es all =
    let greatest = greatest_of_width c.width in
    let a = then_handed (tokens section.Edits greatest text) (λ scanned. spelled_edits c t (wide greatest scanned)) es all in
    let few : AreFew (wide greatest a.0) =
    few_of greatest text a.0 (are_scanned section.Edits greatest text a.0 a.1) short utf8 in
    editable (with_grammar c t) a.2.written es (edits-within greatest a.2.spells few.numbers) (sym a.2.is)

-- ---- edited trees

-- an edit of a tree is of an input of it
input_is : (c : CheckedGrammar) (t : Forest) → IsTreeOf (meant c) t → (e : Edit) → IsEditOf (with_grammar c t) e
    → IsInputOf (meant c) t e.node e.attr
input_is c t fits e is = record { is_tree = fits; known = is.node; input = is.input }

are_changes : (c : CheckedGrammar) (t : Forest) → IsTreeOf (meant c) t → (es : List Edit)
    → AreEditsOf (with_grammar c t) es → AreInputEdits (meant c) t es
are_changes c t fits [] all = tt
are_changes c t fits (e ∷ es) all =
    let first = All-head (IsEditOf (with_grammar c t)) e es all in
    let rest = All-tail (IsEditOf (with_grammar c t)) e es all in
    ((input_is c t fits e first, first.value), are_changes c t fits es rest)

-- a tree with another number for an input is a tree of the grammar
input_fits : (g : AttributeGrammar) (t : Forest) (n a : ℕ) (z : ℤ) → IsInputOf g t n a → IsInput g.greatest z
    → IsTreeOf g (with_input g t n a z)
input_fits g t n a z is within =
    let place = place_in (class_inputs g (class_at t (node_at t n))) a in
    tree-changed (changed n place z) g (keeps_lengths n place z) (keeps_width n place z g.greatest within) t is.is_tree

-- inputs of a tree are inputs of another one, and so edits of it are edits of the other
still_changes : (g : AttributeGrammar) (t u : Forest) → ((m b : ℕ) → IsInputOf g t m b → IsInputOf g u m b)
    → (es : List Edit) → AreInputEdits g t es → AreInputEdits g u es
still_changes g t u still [] all = tt
still_changes g t u still (e ∷ es) all =
    ((still e.node e.attr all.0.0, all.0.1), still_changes g t u still es all.1)

changes_fit : (g : AttributeGrammar) (t : Forest) → IsLawful g → IsTreeOf g t → (es : List Edit)
    → AreInputEdits g t es → IsTreeOf g (change.with_edits g t es)
changes_fit g t law fits [] all = fits
changes_fit g t law fits (e ∷ es) all =
    let u = with_input g t e.node e.attr e.value in
    let there = changes_one g t e.node e.attr e.value all.0.0 all.0.1 in
    let fits' = input_fits g t e.node e.attr e.value all.0.0 all.0.1 in
    changes_fit g u law fits' es
    (still_changes g t u (input_still g law t fits e.node e.attr e.value all.0.0 fits' there) es all.1)

-- with edits of it applied, a tree is one of the grammar
pub edited_fits : (c : CheckedGrammar) (t : Forest) → IsLawful (meant c) → IsTreeOf (meant c) t → (es : List Edit)
    → AreEditsOf (with_grammar c t) es → IsTreeOf (meant c) (edited_tree c t es)
edited_fits c t law fits es all =
    changes_fit (meant c) t law fits es (are_changes c t fits es all)
