-- Edits, one after the other.
use Rattle.std.proofs.Common.{◌≡◌, ℕ, zero, suc, ◌+◌, ◌<◌, List, [], ◌∷◌, ◌++◌, refl, ap, ◌∙◌, arith, length, take, get_or, set, add-one}
use Rattle.std.proofs.Math.Seq.{take-suc}
use Rattle.ftl_model.specs.layout.AttributeGrammar.{AttributeGrammar}
use Rattle.ftl_model.specs.layout.Tree.{Forest}
use Rattle.ftl_model.specs.layout.Values.{Value, number}
use Rattle.ftl_edits.specs.declared.meaning.types.Edit.{Edit}
use Rattle.ftl_relayout.specs.laws.Edits.{AreInputEdits, IsInputEdit, edited_cell, written}

module _ (g : AttributeGrammar) (t : Forest) where
  written-last : (es : List Edit) (e : Edit) (vs : List Value)
      → written g t (es ++ (e ∷ [])) vs ≡ set (written g t es vs) (edited_cell g t e) (number e.value)
  written-last [] e vs = refl
  written-last (x ∷ es) e vs = written-last es e (set vs (edited_cell g t x) (number x.value))

  pub written_more : (es : List Edit) (k : ℕ) (d : Edit) (vs : List Value) → k < length es
      → written g t (take (k + 1) es) vs
      ≡ set (written g t (take k es) vs) (edited_cell g t (get_or es k d)) (number (get_or es k d).value)
  written_more es k d vs below =
      ap (λ xs. written g t xs vs) (ap (λ n. take n es) (add-one k) ∙ take-suc es k d below)
      ∙ written-last (take k es) (get_or es k d) vs

  pub edit_at : (es : List Edit) (k : ℕ) (d : Edit) → AreInputEdits g t es → k < length es → IsInputEdit g t (get_or es k d)
  edit_at [] k d are below = absurd (let z : ⊥ = omega (arith, below) in z)
  edit_at (e ∷ es) zero d are below = are.0
  edit_at (e ∷ es) (suc k) d are below = edit_at es k d are.1 (let z : k < length es = omega (arith, below) in z)
