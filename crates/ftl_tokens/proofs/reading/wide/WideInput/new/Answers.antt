use Rattle.std.proofs.Common.{◌∙◌, sym, ap, subst}
use Rattle.ftl_tokens.specs.scanner.Tokenized.{symbols_of}
use Rattle.ftl_tokens.specs.reading.Reader.{AreAtMost}
use Rattle.ftl_tokens.proofs.reading.NarrowLemmas.{at_most-symbols}
use Rattle.ftl_tokens.proofs.reading.wide.WideInput.new.Goals as goal

pub returns-clause-numbers : goal.returns-clause-numbers
returns-clause-numbers c =
    let s = c.args.scanned.now in
    subst (AreAtMost s.greatest) (sym (c.over.ensures.tokens ∙ ap symbols_of c.tokenized.ensures.tokenized))
    (at_most-symbols s.greatest s.tokenized.text 0 s.tokenized.tokens c.tokenized.ensures.tokens)
