use Rattle.std.proofs.Common.{sym, ◌∙◌, arith}
use Rattle.ftl_document.proofs.pass.Starts.{behind_blank}
use Rattle.ftl_document.proofs.pass.tokens.past_blank.Goals as goal

pub returns-then-bytes-eq32 : goal.returns-then-bytes-eq32
returns-then-bytes-eq32 c = record {
  same = λ greatest.
      behind_blank greatest c.args.bytes.now (sym c.is_empty.ensures ∙ c.if-not-is_empty.true) (omega (arith, c.if-bytes-eq32.true));
}
