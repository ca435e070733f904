use Rattle.std.proofs.Common.{◌∙◌, sym, ap, subst}
use Rattle.ftl_tokens.specs.scanner.Tokenized.{symbols_of}
use Rattle.ftl_tokens.specs.reading.Reader.{AreAtMost}
use Rattle.ftl_tokens.proofs.reading.NarrowLemmas.{at_most-symbols}
use Rattle.ftl_tokens.proofs.reading.input.Input.new.Goals as goal

pub invariant_of-result : goal.invariant_of-result
invariant_of-result c =
    subst (AreAtMost 2147483647) (sym (c.over.ensures.tokens ∙ ap symbols_of c.tokenized.ensures.tokenized))
    (at_most-symbols 2147483647 c.args.scanned.now.text 0 c.args.scanned.now.tokens c.tokenized.ensures.tokens)
