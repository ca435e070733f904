use Rattle.std.proofs.Common.{◌≡◌, List, IfOk, subst, ℕ}
use Rattle.ftl_answer.proofs.explanations.Numbers.{order_known, reader_known, text_is, writer_known}
use Rattle.ftl_answer.proofs.explanations.print.print_example.Goals as goal

pub numbered_text-requires : goal.numbered_text-requires
numbered_text-requires c =
    let t = c.args.tree.now in
    let order = c.args.order.now in
    let x = c.requires.example in
    record {
      reader = reader_known t x.0 x.1 c.args.reader c.args.writer order x.2;
      writer = writer_known t x.0 x.1 c.args.reader c.args.writer order x.2;
      order = order_known t x.0 x.1 c.args.reader c.args.writer order x.2;
    }

pub returns : goal.returns
returns c = record {
  text =
      λ s pair e.
      subst (λ (text : List ℕ). IfOk c.numbered_text.result (λ v. v.items ≡ text))
      (text_is c.args.tree.now s pair c.args.reader c.args.writer c.args.order.now e)
      c.numbered_text.ensures.text;
}
