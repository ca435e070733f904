use Rattle.std.proofs.Common.{◌++◌, ap, ◌∙◌, sym, string_bytes, arith}
use Rattle.ftl_deps.specs.reads.Meant.{meant}
use Rattle.ftl_model.specs.layout.Path.{top}
use Rattle.ftl_tree.proofs.rows.Access.{size-one}
use Rattle.ftl_tokens.specs.writing.Written.{text_of}
use Rattle.ftl_document_printing.specs.trees.Left.{entered}
use Rattle.ftl_document_printing.proofs.trees.WriterPlaces.{has_node, whole}
use Rattle.ftl_document_printing.proofs.trees.Turns.{goes_on}
use Rattle.ftl_document_printing.proofs.trees.print.write_nodes.Goals as goal

pub loop-next-init : goal.loop-next-init
loop-next-init c =
    let t = c.args.tree.now in
    let is = c.tree_is_lawful.ensures.is_tree in
    record {
      rest = goes_on t _ _ (entered t top) c.in_ok-next.next c.in_ok-next.ensures.goes
          ∙ ap (λ l. string_bytes c.args.out.now ++ text_of l)
          (sym (whole t is c.tree_is_lawful.ensures.faultless (has_node t is 0 (omega (
            arith,
            size-one
                (meant t.checked) t.tree is,
          )))));
      writer_place = c.in_ok-next.ensures.goes.writer_place;
    }
