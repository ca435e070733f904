-- A tree after some of the edits.
use Rattle.std.proofs.Common.{◌≡◌, ℕ, zero, suc, ◌+◌, ◌<◌, refl, ◌∙◌, ap, arith, List, [], ◌∷◌, ◌++◌, length, take, get_or, add-one}
use Rattle.std.proofs.Math.Seq.{take-suc}
use Rattle.ftl_model.specs.layout.AttributeGrammar.{AttributeGrammar}
use Rattle.ftl_model.specs.layout.Tree.{Forest}
use Rattle.ftl_model.specs.layout.WithInput.{with_input}
use Rattle.ftl_order.specs.orders.Lawful.{IsLawful}
use Rattle.ftl_tree.proofs.trees.OneInput.{changes_one}
use Rattle.ftl_edits.specs.declared.meaning.types.Edit.{Edit}
use Rattle.ftl_relayout.specs.laws.Edits.{AreInputEdits, IsInputEdit, with_edits}
use Rattle.ftl_relayout.proofs.laws.Edited.{input_still, still_edits}
use Rattle.ftl_relayout.proofs.laws.EditsWritten.{stay_trees}

with_edits-last : (g : AttributeGrammar) (t : Forest) (es : List Edit) (e : Edit)
    → with_edits g t (es ++ (e ∷ [])) ≡ with_input g (with_edits g t es) e.node e.attr e.value
with_edits-last g t [] e = refl
with_edits-last g t (x ∷ es) e = with_edits-last g (with_input g t x.node x.attr x.value) es e

pub edited_more : (g : AttributeGrammar) (t : Forest) (es : List Edit) (k : ℕ) (d : Edit) → k < length es
    → with_edits g t (take (k + 1) es)
    ≡ with_input g (with_edits g t (take k es)) (get_or es k d).node (get_or es k d).attr (get_or es k d).value
edited_more g t es k d below =
    ap (with_edits g t) (ap (λ n. take n es) (add-one k) ∙ take-suc es k d below)
    ∙ with_edits-last g t (take k es) (get_or es k d)

-- each edit is one of the tree that has those before it
pub edit_then : (g : AttributeGrammar) → IsLawful g → (es : List Edit) (t : Forest) → AreInputEdits g t es
    → (k : ℕ) (d : Edit) → k < length es → IsInputEdit g (with_edits g t (take k es)) (get_or es k d)
edit_then g law [] t are k d below = absurd (let z : ⊥ = omega (arith, below) in z)
edit_then g law (e ∷ es) t are zero d below = are.0
edit_then g law (e ∷ es) t are (suc k) d below =
    let u = with_input g t e.node e.attr e.value in
    edit_then g law es u
    (still_edits g t u
    (input_still g law t are.0.0.is_tree e.node e.attr e.value are.0.0
    (stay_trees g t e.node e.attr e.value are.0.0 are.0.1) (changes_one g t e.node e.attr e.value are.0.0 are.0.1)) es are.1)
    k d (let z : k < length es = omega (arith, below) in z)
