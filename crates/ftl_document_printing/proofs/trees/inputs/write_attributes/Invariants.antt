use Rattle.std.proofs.Common.{◌≡◌, ◌++◌, string_bytes, flat_map, take}
use Rattle.ftl_tokens.specs.writing.Written.{text_of}
use Rattle.ftl_document_printing.specs.trees.Left.{attribute_written, node_of}
use Rattle.ftl_document_printing.proofs.trees.inputs.write_attributes.Given as goal

-- the fields so far
abbrev pub invariant-loop-attr : goal.invariant-loop-attr
invariant-loop-attr l =
    string_bytes l.out
    ≡ string_bytes l.fn.out
    ++ flat_map (λ a. text_of (attribute_written l.tree (node_of l.tree l.node) a)) (take l.attr-index l.attrs)
