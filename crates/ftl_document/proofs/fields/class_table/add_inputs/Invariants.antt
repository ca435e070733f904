use Rattle.std.proofs.Common.{◌≡◌, ◌++◌, take}
use Rattle.ftl_document.specs.fields.OwnFields.{names_of_inputs}
use Rattle.ftl_document.proofs.fields.class_table.add_inputs.Given as goal

abbrev pub invariant-loop-attr : goal.invariant-loop-attr
invariant-loop-attr l = l.names ≡ l.initial.names ++ names_of_inputs (take l.attr-index l.attrs)
