use Rattle.std.proofs.Common.{◌≡◌, get_or, [], subst, arith, rules}
use Rattle.std.proofs.lemmas.Grind.{common_steps}
use Rattle.ftl_document.specs.pass.Good.{IsPlainName}
use Rattle.ftl_document.proofs.pass.Steps.{up_to}
use Rattle.ftl_document.proofs.pass.names.all_plain.Goals as goal

pub loop-at-preserved : goal.loop-at-preserved
loop-at-preserved c =
    let same : c.index-names-at.result ≡ get_or c.args.names.now c.loop-at.at [] =
    first_of (search rules, grind (arith, common_steps)) in
    up_to (λ i. IsPlainName (get_or c.args.names.now i [])) c.loop-at.at c.loop-at.invariant
    (subst IsPlainName same (c.is_plain.ensures.plain c.if-not-is_plain.false))
