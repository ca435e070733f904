use Rattle.std.proofs.Common.{◌∙◌, string_bytes}
use Rattle.ftl_showing.proofs.lines.LineLemmas.{spaces_more}
use Rattle.ftl_showing.proofs.lines.details.push_spaces.Goals as goal

pub loop-space-preserved : goal.loop-space-preserved
loop-space-preserved c =
    c.in_ok-push_str.ensures.bytes
    ∙ spaces_more c.loop-space._space (string_bytes c.loop-space.out) (string_bytes c.args.out.now)
    c.loop-space.invariant
