use Rattle.std.proofs.Common.{sym, ◌∙◌, ap, List, count_by}
use Rattle.ftl_tokens.specs.declared.scanner.kind.Token.{Token}
use Rattle.ftl_document.proofs.syntax.CountLemmas.{opens, opened-count}
use Rattle.ftl_document.proofs.syntax.counts.node_count.Goals as goal

pub returns : goal.returns
returns c = record {
  count =
      let s = c.args.scanned.now.tokenized in
      c.opening_count.ensures.count ∙ ap (λ (l : List Token). count_by opens l) c.list.ensures.list ∙ sym (opened-count s);
}
