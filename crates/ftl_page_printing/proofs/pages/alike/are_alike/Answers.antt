use Rattle.std.proofs.Common.{refl}
use Rattle.ftl_tokens.specs.scanner.Tokenized.{symbols_of}
use Rattle.ftl_page_printing.proofs.pages.AlikeLemmas.{alike_more}
use Rattle.ftl_page_printing.proofs.pages.alike.are_alike.Goals as goal

pub loop-k-preserved : goal.loop-k-preserved
loop-k-preserved c =
    alike_more (symbols_of c.args.one.now) (symbols_of c.args.two.now) c.loop-k.k c.loop-k.invariant
    (c.if-not-are_alike_at.ensures.alike refl)
