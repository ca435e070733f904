use Rattle.std.proofs.Common.{◌++◌, ap, arith, ◌∙◌, string_bytes, flat_map}
use Rattle.std.proofs.lemmas.List.{take_all}
use Rattle.ftl_tokens.specs.writing.Written.{text_of}
use Rattle.ftl_document_printing.specs.trees.Left.{attribute_written, node_of}
use Rattle.ftl_document_printing.proofs.trees.Attributes.{texts_of}
use Rattle.ftl_document_printing.proofs.trees.inputs.write_attributes.Goals as goal

pub returns : goal.returns
returns c =
    let t = c.args.tree.now in
    let p = node_of t c.args.node in
    let before = string_bytes c.args.out.now in
    record {
      text =
          c.loop-attr.invariant
          ∙ ap (λ xs. before ++ flat_map (λ a. text_of (attribute_written t p a)) xs)
          (take_all c.loop-attr.attr-index c.args.attrs.now (omega arith))
          ∙ ap (λ l. before ++ l) (texts_of (attribute_written t p) c.args.attrs.now)
          ∙ ap (λ xs. before ++ text_of (flat_map (attribute_written t p) xs)) c.requires.attrs;
    }
