-- Which edits change an input's value, and the steps that come to wait for it.
use Rattle.std.specs.Prelude.{◌≡◌, ◌≢◌, ℕ, List, length}
use Rattle.ftl_model.specs.layout.AttributeGrammar.{AttributeGrammar}
use Rattle.ftl_model.specs.layout.Path.{node_at}
use Rattle.ftl_model.specs.layout.Table.{instance_count}
use Rattle.ftl_model.specs.layout.Tree.{Forest}
use Rattle.ftl_model.specs.layout.Values.{Value}
use Rattle.ftl_model.specs.layout.WithInput.{value_at}
use Rattle.ftl_order.specs.orders.LegalOrder.{HoldsInputs}
use Rattle.ftl_edits.specs.declared.meaning.types.Edit.{Edit}
use Rattle.ftl_relayout.specs.declared.readers.add.ReaderSite.{ReaderSite}
use Rattle.ftl_relayout.specs.laws.Edits.{IsInputEdit, edited_cell, written}
use Rattle.ftl_relayout.specs.queue.Nets.{IsReaderBy, table}
use Rattle.ftl_relayout.specs.readers.Sites.{site_grammar, site_net}

-- the values are these old ones, which have the tree's inputs, with the numbers of the edits
pub record AreEditedFrom (g : AttributeGrammar) (t : Forest) (edits : List Edit) (old values : List Value)
    : Type 0 where
  pub inputs : HoldsInputs g t old
  pub count : length old ≡ instance_count g t
  pub written : values ≡ written g t edits old

-- the value of the edited input is not that of the tree
abbrev pub IsChangedBy : AttributeGrammar → Forest → List Value → Edit → Type 0
IsChangedBy g t values e = table values (edited_cell g t e) ≢ value_at g t (node_at t e.node) e.attr

-- the key of a step that reads the edited input, whose value is changed
pub record IsDueBy (x : ReaderSite) (values : List Value) (e : Edit) (key : ℕ) : Type 0 where
  pub edit : IsInputEdit (site_grammar x) x.tree.now.tree e
  pub changed : IsChangedBy (site_grammar x) x.tree.now.tree values e
  pub reader : IsReaderBy (site_net x) (edited_cell (site_grammar x) x.tree.now.tree e) key
