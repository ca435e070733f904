-- Edits of inputs, one after the other.
use Rattle.std.specs.Prelude.{◌≡◌, ℕ, List, [], ◌∷◌, length, slice_set}
use Rattle.ftl_model.specs.layout.AttributeGrammar.{AttributeGrammar}
use Rattle.ftl_model.specs.layout.Inputs.{IsSameButInputs}
use Rattle.ftl_model.specs.layout.Path.{node_at}
use Rattle.ftl_model.specs.layout.Solves.{Instance, instance_of}
use Rattle.ftl_model.specs.layout.Table.{instance_count, instance_number, value_in}
use Rattle.ftl_model.specs.layout.Tree.{Forest}
use Rattle.ftl_model.specs.layout.TreeOf.{IsInput, IsTreeOf}
use Rattle.ftl_model.specs.layout.Values.{Value, number}
use Rattle.ftl_model.specs.layout.WithInput.{IsInputOf, with_input}
use Rattle.ftl_order.specs.orders.Lawful.{IsLawful}
use Rattle.ftl_order.specs.orders.LegalOrder.{HoldsInputs, IsStep}
use Rattle.ftl_edits.specs.declared.meaning.types.Edit.{Edit}

-- the tree after edits, the first one first
abbrev pub with_edits : AttributeGrammar → Forest → List Edit → Forest
with_edits g t [] = t
with_edits g t (e ∷ es) = with_edits g (with_input g t e.node e.attr e.value) es

-- the number of the instance that an edit is of
abbrev pub edited_cell : AttributeGrammar → Forest → Edit → ℕ
edited_cell g t e = instance_number g t (instance_of (node_at t e.node) e.attr)

-- the values with the numbers of the edits
abbrev pub written : AttributeGrammar → Forest → List Edit → List Value → List Value
written g t [] values = values
written g t (e ∷ es) values = written g t es (slice_set values (edited_cell g t e) (number e.value))

-- an edit is of an input of the tree, with a number in range
abbrev pub IsInputEdit : AttributeGrammar → Forest → Edit → Type 0
IsInputEdit g t e = IsInputOf g t e.node e.attr × IsInput g.greatest e.value

-- each edit is of an input of the tree, with a number in range
abbrev pub AreInputEdits : AttributeGrammar → Forest → List Edit → Type 0
AreInputEdits g t [] = Unit {0}
AreInputEdits g t (e ∷ es) = IsInputEdit g t e × AreInputEdits g t es

-- values with the inputs of a tree, but for edits that were written
pub record AreWritten (g : AttributeGrammar) (t u : Forest) (values after : List Value) : Type 0 where
  pub alike : IsSameButInputs t u
  pub fits : IsTreeOf g u
  pub count : length after ≡ length values
  pub inputs : HoldsInputs g u after
  pub stays : (i : Instance) → IsStep g u i → value_in g u after i ≡ value_in g u values i

-- edits make such values of a list that has the inputs of a tree
abbrev pub EditsAreWritten : Type 0
EditsAreWritten =
    (g : AttributeGrammar) (t : Forest) → IsLawful g → IsTreeOf g t → (es : List Edit) → AreInputEdits g t es
    → (values : List Value) → length values ≡ instance_count g t → HoldsInputs g t values
    → AreWritten g t (with_edits g t es) values (written g t es values)
