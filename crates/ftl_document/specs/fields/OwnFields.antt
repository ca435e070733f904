-- The fields of a node as code has them, and what stands in each input and child of its class.
use Rattle.std.specs.Prelude.{ℕ, Bool, true, false, if◌then◌else◌, ℤ, pos, List, [], ◌∷◌, map, filter, Option, Some}
use Rattle.std.specs.Prelude.{None}
use Rattle.std.specs.Str.{bytes_eq}
use Rattle.ftl_grammar.specs.declared.syntax.rules.AttrDecl.{AttrDecl}
use Rattle.ftl_document.specs.syntax.Written.{NameText, WrittenFields, list_field, no_fields}
use Rattle.ftl_document.specs.syntax.Written.{node_field, number_field}
use Rattle.ftl_document.specs.declared.syntax.row.WrittenRow.{WrittenRow}
use Rattle.ftl_document.specs.declared.syntax.row.WrittenRow.TheVariants as rows
use Rattle.ftl_meaning.specs.faults.Checked.{is_input}
use Rattle.ftl_document.specs.faults.Nodes.{FieldForm, FieldHead, head_of, list_form, node_form, number_form}
use Rattle.ftl_document.specs.declared.fields.own_field.FieldValue.{FieldValue}
use Rattle.ftl_document.specs.declared.fields.own_field.FieldValue.TheVariants as value
use Rattle.ftl_document.specs.declared.fields.own_field.OwnField.{OwnField}

-- the names of the inputs among these attributes
abbrev pub names_of_inputs : List AttrDecl → List NameText
names_of_inputs attrs = map (λ a. a.name) (filter (λ a. is_input a.kind) attrs)

-- the form of what stands in a field
abbrev pub form_of : FieldValue → FieldForm
form_of (value.Number n) = number_form
form_of value.Node = node_form
form_of value.List = list_form

-- whether a number stands there
abbrev pub is_number : FieldForm → Bool
is_number number_form = true
is_number node_form = false
is_number list_form = false

-- a field by its name and form
abbrev pub head_in : OwnField → FieldHead
head_in f = head_of f.name (form_of f.value)

-- the number of a field; 0 of one that has none
abbrev pub number_of : FieldValue → ℤ
number_of (value.Number n) = n
number_of value.Node = pos 0
number_of value.List = pos 0

-- the number of the first field of this name, if there is one
abbrev pub slot_of : List OwnField → NameText → Option ℤ
slot_of [] name = None
slot_of (f ∷ fields) name = if bytes_eq name f.name then Some (number_of f.value) else slot_of fields name

-- a field of this name
abbrev pub own : NameText → FieldValue → OwnField
own name x = record { name = name; value = x }

-- the fields of a node as they are written, without what stands in them
abbrev pub own_of : WrittenFields → List OwnField
own_of no_fields = []
own_of (number_field name n later) = own name (value.Number n) ∷ own_of later
own_of (node_field name class _ later) = own name value.Node ∷ own_of later
own_of (list_field name nodes later) = own name value.List ∷ own_of later

-- the field of a row, where it is that of one
abbrev pub fields_in : WrittenRow → List OwnField
fields_in (rows.Number name n) = own name (value.Number n) ∷ []
fields_in (rows.Single name class n) = own name value.Node ∷ []
fields_in (rows.List name n) = own name value.List ∷ []
fields_in (rows.Kid class n) = []

-- how many rows stand inside a row
abbrev pub inside : WrittenRow → ℕ
inside (rows.Number name n) = 0
inside (rows.Single name class n) = n
inside (rows.List name n) = n
inside (rows.Kid class n) = n
