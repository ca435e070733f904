use Rattle.std.proofs.Common.{◌∙◌, string_bytes}
use Rattle.ftl_showing.proofs.lines.LineLemmas.{indentation_more}
use Rattle.ftl_showing.proofs.lines.depth.push_indentation.Goals as goal

pub loop-level-preserved : goal.loop-level-preserved
loop-level-preserved c =
    c.in_ok-push_str.ensures.bytes
    ∙ indentation_more c.loop-level._level (string_bytes c.loop-level.out) (string_bytes c.args.out.now)
    c.loop-level.invariant
