-- What one step of a walk changes.
use Rattle.std.specs.Prelude.{◌≡◌, ℕ, suc, ◌+◌, ◌++◌, List, [], ◌∷◌}
use Rattle.ftl_document.specs.nodes.NodeRows.{node_row}
use Rattle.ftl_document.specs.declared.nodes.progress.NextNode.{NextNode}
use Rattle.ftl_document.specs.declared.nodes.progress.Progress.{Progress}
use Rattle.ftl_document.specs.declared.nodes.stack.Region.{Region}

-- a walk before the first node
pub record IsFirst (p : Progress) : Type 0 where
  pub stack : p.stack ≡ []
  pub at : p.at ≡ 0
  pub number : p.number ≡ 0
  pub count : p.count ≡ 0
  pub rows : p.rows.items ≡ []
  pub inputs : p.inputs.items ≡ []

-- the region of the fields of a node
abbrev pub fields_region : (end class node : ℕ) → Region
fields_region end k n = record { end = end; class = k; node = n; child = 0; kid = 0 }

-- the region of the nodes in a list child of the node with these fields, before any has come
abbrev pub list_region : (end : ℕ) → Region → (child : ℕ) → Region
list_region end fields c =
    record { end = end; class = fields.class; node = fields.node; child = c; kid = 0 }

-- a walk that passed a row that is no node, and stands in these regions
pub record HasPassed (p : Progress) (regions : List Region) (q : Progress) : Type 0 where
  pub stack : q.stack ≡ regions
  pub at : q.at ≡ suc p.at
  pub number : q.number ≡ p.number
  pub count : q.count ≡ p.count
  pub rows : q.rows.items ≡ p.rows.items
  pub inputs : q.inputs.items ≡ p.inputs.items

-- a walk that passed a node of this class and with so many attributes, and stands before its fields
pub record HasEntered (p : Progress) (next : NextNode) (class width : ℕ) (q : Progress) : Type 0 where
  pub stack : q.stack ≡ fields_region next.end class p.number ∷ p.stack
  pub at : q.at ≡ next.from
  pub number : q.number ≡ suc p.number
  pub count : q.count ≡ p.count + width
  pub rows : q.rows.items
      ≡ p.rows.items ++ node_row class next.parent next.place.child next.place.kid ∷ []
